use Rattle.wall.specs.laws.LookLaws.{alike_looks}
use Rattle.wall.proofs.look.alike.Goals as goal

pub returns : goal.returns
returns c = alike_looks _ _ _ c.eq.ensures
