-- The binary digits of a number.
use Rattle.std.specs.Prelude.{ℕ, zero, suc, ◌+◌, ◌*◌, ◌/◌, ◌%◌, ◌^◌, Bool, true, false, eqb}
use Rattle.laws.specs.Pick.{pick}

-- bit k of n, the lowest being bit 0: 0 or 1
abbrev pub bit : ℕ → ℕ → ℕ
bit n k = n / 2 ^ k % 2

-- a truth value as a bit
abbrev pub one : Bool → ℕ
one true = 1
one false = 0

-- the number whose bits are h 0, h 1, .., h (n - 1), lowest first
unfoldable pub pack : (ℕ → ℕ) → ℕ → ℕ
pack h zero = 0
pack h (suc n) = h 0 + 2 * pack (λ i. h (suc i)) n

-- a number of n bits with bit a as told, and all others as they were
abbrev pub with_bit : ℕ → ℕ → Bool → ℕ → ℕ
with_bit n a b bits = pack (λ k. pick (eqb k a) (one b) (bit bits k)) n
