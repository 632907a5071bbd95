use Rattle.desk.specs.Page.{Puts}
use Rattle.wall.specs.Draw.{strung}
use Rattle.wall.specs.Svg.{dot_bytes}
use Rattle.wall.proofs.svg.put_row.Given as goal

abbrev pub invariant-loop-column : goal.invariant-loop-column
invariant-loop-column l =
    let d = l.row.drawing in
    Puts (strung (dot_bytes d.apart d.dots.chip d.dots.frame.now l.lit l.row.at) l.column) l.initial.page l.page
