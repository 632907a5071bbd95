use Rattle.std.proofs.Common.{length}
use Rattle.wall.proofs.follow.Followed.follow_records.Given as goal

abbrev pub decreases-loop-until : goal.decreases-loop-until
decreases-loop-until l = length l.rest
