use Rattle.std.proofs.Common.{arith}
use Rattle.picture.proofs.laws.CanvasLaws.{painting_start, painting_next}
use Rattle.picture.proofs.canvas.Canvas.put_cell.Goals as goal

pub loop-c-init : goal.loop-c-init
loop-c-init c = painting_start _ _ _

pub loop-c-preserved : goal.loop-c-preserved
loop-c-preserved c = painting_next _ _ _ _ _ _ c.loop-c.invariant (omega arith) c.put_column.ensures
