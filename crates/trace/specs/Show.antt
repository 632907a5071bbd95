-- How the panel's numbers are shown (docs/TRACE.md, "The print").
use Rattle.std.specs.Prelude.{ℕ, ◌/◌, ◌%◌, ◌^◌, List, [], ◌∷◌}

-- the four bytes of a number of 32 bits, the highest first: two hex digits each are the eight of the line `written`
abbrev pub highest_first : ℕ → List ℕ
highest_first n = n / 2 ^ 24 ∷ n / 2 ^ 16 % 256 ∷ n / 2 ^ 8 % 256 ∷ n % 256 ∷ []
