-- The text beneath the drawing (docs/WALL.md, "The print").
use Rattle.std.specs.Prelude.{ℕ, List, ltb, get_or}
use Rattle.laws.specs.Pick.{pick}
use Rattle.dots.specs.Table.{table}
use Rattle.chip.specs.Sizes.{positions}

-- the code's own character where it is 20h to 7Eh, and a point for all others
abbrev pub character_of : ℕ → ℕ
character_of code = pick (ltb code 0x20) 46 (pick (ltb 0x7E code) 46 code)

-- a character for each of the sixteen positions, from the left
abbrev pub text_of : List ℕ → List ℕ
text_of codes = table (λ p. character_of (get_or codes p 0)) positions
