use Rattle.std.proofs.Common.{length}
use Rattle.desk.specs.Page.{PutsSome}
use Rattle.wall.specs.Status.{FirstCounts}
use Rattle.wall.proofs.status.put_answers.Given as goal

abbrev pub invariant-loop-answer : goal.invariant-loop-answer
invariant-loop-answer l = PutsSome (FirstCounts l.fn.counts (length l.yielded)) l.initial.page l.page
