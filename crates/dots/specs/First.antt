-- The first place at which a test is true.
use Rattle.std.specs.Prelude.{ℕ, zero, suc, ◌+◌, ◌<◌, ◌≡◌, ◌⊎◌, Bool}
use Rattle.laws.specs.Pick.{pick}

-- among x, x + 1, .., k of them: `found` of the first, or `none`
unfoldable pub first : {A : Type 0} → (ℕ → Bool) → (ℕ → A) → A → ℕ → ℕ → A
first t found none x zero = none
first t found none x (suc k) = pick (t x) (found x) (first t found none (x + 1) k)

-- by rows: among the dots of the rows r, r + 1, .., k of them, each with the columns 0 to cols - 1
unfoldable pub first_dot : {A : Type 0} → (ℕ → ℕ → Bool) → (ℕ → ℕ → A) → A → (cols : ℕ) → ℕ → ℕ → A
first_dot t found none cols r zero = none
first_dot t found none cols r (suc k) = first (t r) (found r) (first_dot t found none cols (r + 1) k) 0 cols

-- the dot (s, y) stands before the dot (r, x), by rows
abbrev pub Before : ℕ → ℕ → ℕ → ℕ → Type 0
Before s y r x = (s < r) ⊎ ((s ≡ r) × (y < x))
