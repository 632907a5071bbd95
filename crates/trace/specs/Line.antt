-- The line of a record (docs/TRACE.md, "The print").
use Rattle.std.specs.Prelude.{ℕ, ◌/◌, ◌%◌, List, [], ◌∷◌, ◌++◌, nat_lt}
use Rattle.laws.specs.Pick.{pick}
use Rattle.text.specs.Hex.{digit_of, hex_of}

-- the tens of a number below 100, where it has any
abbrev pub tens_of : ℕ → List ℕ
tens_of n = pick (nat_lt n 10) [] (digit_of (n / 10) ∷ [])

-- the number of its answer in decimal, a space, its byte as two upper-case hex digits, and a newline
abbrev pub answer_line : ℕ → ℕ → List ℕ
answer_line number byte = tens_of number ++ (digit_of (number % 10) ∷ 32 ∷ hex_of byte ++ 10 ∷ [])
