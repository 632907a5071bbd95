use Rattle.std.proofs.Common.{◌≤◌}
use Rattle.desk.proofs.bytes.read.Given as goal

abbrev pub invariant-loop : goal.invariant-loop
invariant-loop l = l.read.len ≤ 4096
