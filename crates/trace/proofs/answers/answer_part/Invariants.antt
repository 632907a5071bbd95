use Rattle.std.proofs.Common.{length}
use Rattle.trace.proofs.answers.answer_part.Given as goal

abbrev pub decreases-loop-verdict : goal.decreases-loop-verdict
decreases-loop-verdict l = length l.rest
