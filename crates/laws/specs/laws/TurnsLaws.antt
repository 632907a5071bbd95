-- Laws of a step that is taken n times.
use Rattle.std.specs.Prelude.{ℕ, suc, zero, ◌+◌, ◌≡◌, refl}
use Rattle.std.proofs.Common.{ap, ◌∙◌, add-zero, add-suc, add-one}
use Rattle.laws.specs.engine.Turns.{turns}

-- no step leaves x
pub none : {A : Type 0} (f : A → A) (x : A) → turns f 0 x ≡ x
unfolding turns
none f x = refl

-- the last step apart, as the code counts
pub one_more : {A : Type 0} (f : A → A) (k : ℕ) (x : A) → turns f (k + 1) x ≡ f (turns f k x)
unfolding turns
one_more f k x = rw add-one

-- the first step apart
pub front : {A : Type 0} (f : A → A) (n : ℕ) (x : A) → turns f (suc n) x ≡ turns f n (f x)
unfolding turns
front f zero x = refl
front f (suc n) x = ap f (front f n x)

-- steps after steps
pub append : {A : Type 0} (f : A → A) (k m : ℕ) (x : A) → turns f (k + m) x ≡ turns f m (turns f k x)
unfolding turns
append f k zero x = rw add-zero
append f k (suc m) x = rw (add-suc, append f k m x)

-- where a step changes nothing, no later one does
pub stays : {A : Type 0} (f : A → A) (x : A) → f x ≡ x → (n : ℕ) → turns f n x ≡ x
unfolding turns
stays f x e zero = refl
stays f x e (suc n) = ap f (stays f x e n) ∙ e
