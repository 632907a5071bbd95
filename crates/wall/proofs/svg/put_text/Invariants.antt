use Rattle.std.proofs.Common.{get_or}
use Rattle.desk.specs.Page.{Puts}
use Rattle.wall.specs.Draw.{strung}
use Rattle.wall.specs.Svg.{escaped_of}
use Rattle.wall.specs.Text.{text_of}
use Rattle.wall.proofs.svg.put_text.Given as goal

abbrev pub invariant-loop-character : goal.invariant-loop-character
invariant-loop-character l = Puts (strung (λ p. escaped_of (get_or (text_of l.fn.codes) p 0)) l.character-index) l.initial.page l.page
