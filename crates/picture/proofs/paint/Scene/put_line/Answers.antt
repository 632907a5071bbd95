use Rattle.std.proofs.Common.{arith}
use Rattle.picture.proofs.laws.CanvasLaws.{painting_start, painting_next}
use Rattle.picture.proofs.paint.Scene.put_line.Goals as goal

pub loop-position-init : goal.loop-position-init
loop-position-init c = painting_start _ _ _

pub loop-position-preserved : goal.loop-position-preserved
loop-position-preserved c = painting_next _ _ _ _ _ _ c.loop-position.invariant (omega arith) (rw c.shown.ensures at c.put_cell.ensures)
