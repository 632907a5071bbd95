-- After some cells the canvas is as many steps on.
use Rattle.std.proofs.Common.{ℕ, List, Bool, ◌*◌}
use Rattle.dots.specs.engine.Cells.{block}
use Rattle.chip.specs.Sizes.{positions}
use Rattle.chip.specs.declared.sheet.Sheet.{Sheet}
use Rattle.picture.specs.declared.mode.Wiring.{Wiring}
use Rattle.picture.specs.Pattern.{tall, wide}
use Rattle.picture.specs.engine.Shown.{page_dot}
use Rattle.picture.specs.engine.Wiring.{wired}
use Rattle.picture.proofs.laws.CanvasLaws.{Painting}
use Rattle.picture.proofs.paint.Scene.put_line.Given as goal

abbrev pub step : Sheet → List ℕ → Bool → ℕ → Wiring → ℕ → List ℕ → List ℕ
step sheet font dark l w p = block (wired w) tall wide (page_dot sheet font dark l p) (l * tall) (p * wide)

abbrev pub invariant-loop-position : goal.invariant-loop-position
invariant-loop-position l =
    Painting (step l.self.sheet l.self.font.now l.self.dark l.line) positions l.initial.canvas l.canvas l.position
