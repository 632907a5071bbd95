-- After i dots the canvas is i steps on.
use Rattle.std.proofs.Common.{ℕ, List, ◌+◌, ◌*◌}
use Rattle.dots.specs.engine.Cells.{put}
use Rattle.picture.specs.declared.mode.Wiring.{Wiring}
use Rattle.picture.specs.Pattern.{tall, wide}
use Rattle.picture.specs.engine.Shown.{cell_dot}
use Rattle.picture.specs.engine.Wiring.{wired}
use Rattle.picture.proofs.laws.CanvasLaws.{Painting}
use Rattle.picture.proofs.canvas.Canvas.put_column.Given as goal

abbrev pub step : List ℕ → ℕ → ℕ → ℕ → Wiring → ℕ → List ℕ → List ℕ
step rows top left c w i f = put (wired w) f (top + i) (left + c) (cell_dot rows i c)

abbrev pub invariant-loop-i : goal.invariant-loop-i
invariant-loop-i l =
    Painting (step l.fn.rows (l.at.line * tall) (l.at.position * wide) l.c) tall l.initial.self l.self l.i
