use Rattle.std.proofs.Common.{◌-◌}
use Rattle.desk.proofs.arguments.read_groups.Given as goal

abbrev pub decreases-loop-next : goal.decreases-loop-next
decreases-loop-next l = l.count - l.next
