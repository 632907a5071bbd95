-- The line `written` beneath the drawing (docs/WALL.md, "The print").
use Rattle.std.specs.Prelude.{ℕ, List, [], ◌∷◌, ◌++◌, eqb}
use Rattle.laws.specs.Pick.{pick}
use Rattle.laws.specs.Bit.{bit}
use Rattle.text.specs.Hex.{hex_of}
use Rattle.chip.specs.Sizes.{display_size}
use Rattle.mirror.specs.Written.{written_for}
use Rattle.mirror.specs.declared.panel.Panel.{Panel}
use Rattle.wall.specs.Draw.{strung}

-- a display address whose bit is 1: a space, and the address as two upper-case hex digits; nothing where it is 0
abbrev pub place_bytes : ℕ → ℕ → List ℕ
place_bytes bits a = pick (eqb (bit bits a) 0) [] (32 ∷ hex_of a)

-- all of them, lowest first; a space and - where there are none
abbrev pub places_bytes : ℕ → List ℕ
places_bytes bits = pick (eqb bits 0) (32 ∷ 45 ∷ []) (strung (place_bytes bits) display_size)

-- `written`, the places, and a newline
abbrev pub written_bytes : ℕ → List ℕ
written_bytes bits = (119 ∷ 114 ∷ 105 ∷ 116 ∷ 116 ∷ 101 ∷ 110 ∷ []) ++ (places_bytes bits ++ 10 ∷ [])

-- the line of a panel, from its bits; one that is not sound has none
abbrev pub written_line : Panel → List ℕ
written_line p = written_bytes (written_for p).bits
