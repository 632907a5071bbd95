-- After c columns the canvas is c steps on.
use Rattle.std.proofs.Common.{◌*◌}
use Rattle.picture.specs.declared.mode.Wiring.{Wiring}
use Rattle.picture.specs.Pattern.{tall, wide}
use Rattle.picture.specs.engine.Shown.{column_put}
use Rattle.picture.specs.engine.Wiring.{wired}
use Rattle.picture.proofs.laws.CanvasLaws.{Painting}
use Rattle.picture.proofs.canvas.Canvas.put_cell.Given as goal

abbrev pub invariant-loop-c : goal.invariant-loop-c
invariant-loop-c l = Painting (λ (w : Wiring). column_put (wired w) l.rows (l.at.line * tall) (l.at.position * wide)) wide l.initial.self l.self l.c
