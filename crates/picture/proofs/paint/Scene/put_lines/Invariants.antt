-- After some lines the canvas is as many steps on.
use Rattle.chip.specs.Sizes.{lines_of}
use Rattle.picture.specs.declared.mode.Wiring.{Wiring}
use Rattle.picture.specs.engine.Shown.{line_put}
use Rattle.picture.proofs.laws.CanvasLaws.{Painting}
use Rattle.picture.proofs.paint.Scene.put_lines.Given as goal

abbrev pub invariant-loop-line : goal.invariant-loop-line
invariant-loop-line l =
    Painting (λ (w : Wiring). line_put w l.self.sheet l.self.font.now l.self.dark) (lines_of l.initial.canvas.wiring.chip) l.initial.canvas l.canvas l.line
