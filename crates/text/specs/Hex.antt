-- Two upper-case hex digits for a byte (document 01, the mirror program).
use Rattle.std.specs.Prelude.{ℕ, ◌+◌, ◌/◌, ◌%◌, List, [], ◌∷◌, ltb}
use Rattle.laws.specs.Pick.{pick}

-- 0 to 9 are 48 to 57, A to F are 65 to 70
abbrev pub digit_of : ℕ → ℕ
digit_of n = let low = n % 16 in pick (ltb low 10) (48 + low) (55 + low)

-- the high digit first
abbrev pub hex_of : ℕ → List ℕ
hex_of b = digit_of (b / 16) ∷ digit_of b ∷ []
