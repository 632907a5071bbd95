use Rattle.std.proofs.Common.{◌+◌, ◌≤◌, ◌≡◌, length}
use Rattle.framing.specs.Frames.{records_of}
use Rattle.framing.proofs.records.records.Given as goal

-- what was counted and what is left are all
abbrev pub invariant-loop-size : goal.invariant-loop-size
invariant-loop-size l = (l.count + length l.rest ≤ length l.log) × (l.count + records_of l.rest ≡ records_of l.log)

abbrev pub decreases-loop-size : goal.decreases-loop-size
decreases-loop-size l = length l.rest
