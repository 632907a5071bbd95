-- The loop's invariant: what is answered so far, and what is left of the log, are all.
use Rattle.std.proofs.Common.{◌-◌, length}
use Rattle.mirror.specs.engine.Read.{totals_read}
use Rattle.mirror.specs.laws.RunLaws.{Reading}
use Rattle.mirror.proofs.totals.Totals.consume.Given as goal

abbrev pub invariant-loop-reading : goal.invariant-loop-reading
invariant-loop-reading l = Reading l.log l.fn.self (totals_read l.reading l.display l.pattern l.counts) l.at

abbrev pub decreases-loop-reading : goal.decreases-loop-reading
decreases-loop-reading l = length l.log - l.at
