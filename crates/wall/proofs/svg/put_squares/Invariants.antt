use Rattle.std.proofs.Common.{true}
use Rattle.desk.specs.Page.{Puts}
use Rattle.wall.specs.Draw.{strung}
use Rattle.wall.specs.Svg.{row_squares}
use Rattle.wall.proofs.svg.put_squares.Given as goal

abbrev pub invariant-loop-at : goal.invariant-loop-at
invariant-loop-at l = Puts (strung (row_squares true l.dots.chip l.dots.frame.now l.lit) l.at) l.initial.page l.page
