-- A step that is taken n times, at any type: what a loop comes to.
use Rattle.std.specs.Prelude.{ℕ, suc, zero}

-- n steps from x
unfoldable pub turns : {A : Type 0} → (A → A) → ℕ → A → A
turns f zero x = x
turns f (suc n) x = f (turns f n x)
