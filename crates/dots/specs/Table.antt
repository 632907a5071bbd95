-- Lists and sums over 0, 1, .., n - 1, and steps that are taken in that order.
use Rattle.std.specs.Prelude.{ℕ, zero, suc, ◌+◌, List, [], ◌∷◌}

-- h 0, h 1, .., h (n - 1)
unfoldable pub table : {A : Type 0} → (ℕ → A) → ℕ → List A
table h zero = []
table h (suc n) = h 0 ∷ table (λ i. h (suc i)) n

-- h 0 + h 1 + .. + h (n - 1)
unfoldable pub sum : (ℕ → ℕ) → ℕ → ℕ
sum h zero = 0
sum h (suc n) = sum h n + h n
