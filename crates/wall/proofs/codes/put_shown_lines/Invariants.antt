use Rattle.desk.specs.Page.{Puts}
use Rattle.wall.specs.Beneath.{shown_lines}
use Rattle.wall.proofs.codes.put_shown_lines.Given as goal

abbrev pub invariant-loop-line : goal.invariant-loop-line
invariant-loop-line l = Puts (shown_lines l.text l.sheet l.line) l.initial.page l.page
