use Rattle.std.proofs.Common.{arith}
use Rattle.picture.proofs.laws.CanvasLaws.{painting_start, painting_next}
use Rattle.picture.proofs.paint.Scene.put_lines.Goals as goal

pub loop-line-init : goal.loop-line-init
loop-line-init c = painting_start _ _ _

pub loop-line-preserved : goal.loop-line-preserved
loop-line-preserved c = painting_next _ _ _ _ _ _ c.loop-line.invariant (omega arith) c.put_line.ensures
