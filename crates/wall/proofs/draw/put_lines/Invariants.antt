use Rattle.std.proofs.Common.{◌*◌}
use Rattle.desk.specs.Page.{Puts}
use Rattle.wall.specs.Draw.{line_bytes, rows_shown, strung}
use Rattle.wall.proofs.draw.put_lines.Given as goal

abbrev pub invariant-loop-line : goal.invariant-loop-line
invariant-loop-line l =
    let d = l.drawing in
    Puts (strung (λ i. line_bytes d.apart d.dots.chip l.pairs d.dots.frame.now (i * rows_shown l.pairs)) l.line) l.initial.page l.page
