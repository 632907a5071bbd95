use Rattle.desk.specs.Page.{Puts}
use Rattle.wall.specs.Beneath.{code_bytes}
use Rattle.wall.specs.Draw.{strung}
use Rattle.wall.proofs.codes.put_codes_line.Given as goal

abbrev pub invariant-loop-code : goal.invariant-loop-code
invariant-loop-code l = Puts (strung (code_bytes l.fn.codes) l.code-index) l.initial.page l.page
