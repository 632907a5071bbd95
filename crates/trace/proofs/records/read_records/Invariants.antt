use Rattle.std.specs.Prelude.{◌≤◌, length}
use Rattle.trace.proofs.records.read_records.Given as goal

abbrev pub invariant-loop-r : goal.invariant-loop-r
invariant-loop-r l = length l.rest ≤ length l.bytes

abbrev pub decreases-loop-r : goal.decreases-loop-r
decreases-loop-r l = length l.rest
