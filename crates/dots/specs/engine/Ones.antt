-- The ones of a byte and of a frame.
use Rattle.std.specs.Prelude.{ℕ, ◌≤◌, ◌≡◌, List, length, get_or}
use Rattle.std.specs.Int.Count.{ones}
use Rattle.dots.specs.Table.{sum}

-- the ones of a byte, with the bound that a sum of them needs
pub record ByteOnes (byte n : ℕ) : Type 0 where
  pub is : n ≡ ones byte
  pub fits : n ≤ 8

-- the ones of each byte, added up
abbrev pub ones_of : List ℕ → ℕ
ones_of f = sum (λ b. ones (get_or f b 0)) (length f)
