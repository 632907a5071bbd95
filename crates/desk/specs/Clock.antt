-- Numbers and clocks, as they are put on a page (docs/REPORT.md, "Columns").
use Rattle.std.specs.Prelude.{◌≡◌, ℕ, ◌+◌, ◌/◌, ◌%◌, ◌<◌, ◌≤◌, List, [], ◌∷◌, ◌++◌}
use Rattle.io.specs.Digits.{last_digits, IsDigitCount}
use Rattle.text.specs.Hex.{digit_of}

-- a number in decimal, with as many digits as it needs
pub record Decimal (n : ℕ) (bytes : List ℕ) : Type 0 where
  pub many : ℕ
  pub fewest : IsDigitCount 10 1 n many
  pub written : bytes ≡ last_digits 10 many n

-- the most digits that a number of 64 bits has
abbrev pub most_digits : ℕ
most_digits = 20

-- two digits: the last two of a number
abbrev pub two_of : ℕ → List ℕ
two_of n = digit_of (n / 10 % 10) ∷ digit_of (n % 10) ∷ []

-- hours: two digits, and as many as they need from 100 on
pub data Hours (n : ℕ) (bytes : List ℕ) : Type 0 where
  two : n < 100 → bytes ≡ two_of n → Hours n bytes
  more : 100 ≤ n → Decimal n bytes → Hours n bytes

-- minutes, seconds and millionths of a time: `:12:00.000100`
abbrev pub within_hour : ℕ → List ℕ
within_hour time =
    58 ∷ two_of (time / 60000000 % 60) ++ 58 ∷ two_of (time / 1000000 % 60)
    ++ 46 ∷ two_of (time / 10000) ++ two_of (time / 100) ++ two_of time

-- a clock: its hours, and the rest
pub record Clock (time : ℕ) (bytes : List ℕ) : Type 0 where
  pub hours : List ℕ
  pub told : Hours (time / 3600000000) hours
  pub written : bytes ≡ hours ++ within_hour time

-- the most bytes of a clock: those of its hours and the thirteen within
abbrev pub most_clock : ℕ
most_clock = most_digits + 13
