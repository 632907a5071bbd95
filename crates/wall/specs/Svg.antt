-- The drawing for browsers, made of squares and of text (docs/WALL.md, "The drawing for browsers").
use Rattle.std.specs.Prelude.{ℕ, ◌+◌, ◌*◌, ◌/◌, ◌%◌, Bool, true, not, List, [], ◌∷◌, ◌++◌, eqb, ltb, get_or}
use Rattle.std.specs.Bool.{beq}
use Rattle.laws.specs.Pick.{pick}
use Rattle.text.specs.Hex.{digit_of}
use Rattle.chip.specs.Sizes.{positions}
use Rattle.wall.specs.Apart.{blank_at, columns_drawn, lit_drawn, rows_drawn}
use Rattle.wall.specs.Draw.{strung}
use Rattle.wall.specs.Text.{text_of}

-- a number below 1000, in decimal, with as many digits as it needs
abbrev pub decimal_bytes : ℕ → List ℕ
decimal_bytes n =
    pick (ltb n 10) (digit_of (n % 10) ∷ [])
    (pick (ltb n 100) (digit_of (n / 10 % 10) ∷ digit_of (n % 10) ∷ []) (digit_of (n / 100 % 10) ∷ digit_of (n / 10 % 10) ∷ digit_of (n % 10) ∷ []))

-- where a column or a row begins: in a grid of 4, from 12 on
abbrev pub corner_of : ℕ → ℕ
corner_of i = 12 + 4 * i

-- column x of row r as a square of 3: Mx yh3v3h-3z
abbrev pub square_bytes : ℕ → ℕ → List ℕ
square_bytes r x =
    (((77 ∷ decimal_bytes (corner_of x)) ++ (32 ∷ [])) ++ decimal_bytes (corner_of r)) ++ (104 ∷ 51 ∷ 118 ∷ 51 ∷ 104 ∷ 45 ∷ 51 ∷ 122 ∷ [])

-- the square of a dot that is lit, or of one that is not; there is none in the gaps
abbrev pub dot_bytes : Bool → ℕ → List ℕ → Bool → ℕ → ℕ → List ℕ
dot_bytes apart chip f lit r x = pick (blank_at apart r x) [] (pick (not (beq (lit_drawn apart chip f r x) lit)) [] (square_bytes r x))

-- those of a row, from the left
abbrev pub row_squares : Bool → ℕ → List ℕ → Bool → ℕ → List ℕ
row_squares apart chip f lit r = strung (dot_bytes apart chip f lit r) (columns_drawn apart)

-- by rows, from the top, the cells apart
abbrev pub all_squares : ℕ → List ℕ → Bool → List ℕ
all_squares chip f lit = strung (row_squares true chip f lit) (rows_drawn true chip)

-- a character of the text: &lt; for <, &gt; for >, &amp; for &, and all others as they are
abbrev pub escaped_of : ℕ → List ℕ
escaped_of c =
    pick (eqb c 60) (38 ∷ 108 ∷ 116 ∷ 59 ∷ [])
    (pick (eqb c 62) (38 ∷ 103 ∷ 116 ∷ 59 ∷ []) (pick (eqb c 38) (38 ∷ 97 ∷ 109 ∷ 112 ∷ 59 ∷ []) (c ∷ [])))

-- a line of the text
abbrev pub escaped_text : List ℕ → List ℕ
escaped_text codes = strung (λ p. escaped_of (get_or (text_of codes) p 0)) positions
