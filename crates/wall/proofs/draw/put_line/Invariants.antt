use Rattle.desk.specs.Page.{Puts}
use Rattle.wall.specs.Draw.{column_bytes, strung}
use Rattle.wall.proofs.draw.put_line.Given as goal

abbrev pub invariant-loop-column : goal.invariant-loop-column
invariant-loop-column l =
    let d = l.row.drawing in
    Puts (strung (column_bytes d.apart d.dots.chip l.pairs d.dots.frame.now l.row.at) l.column) l.initial.page l.page
