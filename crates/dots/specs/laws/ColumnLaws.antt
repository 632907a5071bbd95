-- Columns of a row whose bytes hold eight dots each, the leftmost in the highest bit.
use Rattle.std.specs.Prelude.{ℕ, ◌+◌, ◌-◌, ◌*◌, ◌/◌, ◌%◌, ◌<◌, ◌≡◌}
use Rattle.std.proofs.Common.{arith}

-- the column of bit i of byte k of a row, and back
pub column_in : (n k i : ℕ) → k < n → 8 * k + (7 - i) < 8 * n
column_in n k i p = omega arith

pub column_byte : (k i : ℕ) → (8 * k + (7 - i)) / 8 ≡ k
column_byte k i = omega arith

pub column_bit : (k i : ℕ) → i < 8 → 7 - (8 * k + (7 - i)) % 8 ≡ i
column_bit k i p = omega arith

pub column_back : (x : ℕ) → 8 * (x / 8) + (7 - (7 - x % 8)) ≡ x
column_back x = omega arith

pub byte_in : (n x : ℕ) → x < 8 * n → x / 8 < n
byte_in n x p = omega arith
