-- Laws of `first` and `first_dot`.
use Prim.Native.Nat.{ℕ, zero, suc, ◌+◌, ◌-◌, ◌≤◌, ◌<◌}
use Rattle.std.specs.Prelude.{◌≡◌, Bool, true}
use Rattle.std.proofs.Math.Path.{refl, ap}
use Rattle.std.proofs.Common.{◌∙◌, inl, inr}
use Rattle.std.proofs.Math.Bool.{false}
use Rattle.std.proofs.Math.Decide.{ℕ_discrete}
use native.Mathlib.Omega.{arith}
use Rattle.laws.specs.Pick.{pick}
use Rattle.dots.specs.First.{first, first_dot, Before}

-- what a loop over the places does
module _ {A : Type 0} (t : ℕ → Bool) (found : ℕ → A) (none : A) where
  pub first_end : (x n : ℕ) → n ≤ x → first t found none x (n - x) ≡ none
  unfolding first
  first_end x n h = let e : n - x ≡ 0 = omega arith in ap (first t found none x) e

  opened : (x n : ℕ) → x < n → first t found none x (n - x) ≡ pick (t x) (found x) (first t found none (x + 1) (n - (x + 1)))
  unfolding first
  opened x n h = let e : n - x ≡ suc (n - (x + 1)) = omega arith in ap (first t found none x) e

  pub first_here : (x n : ℕ) → x < n → t x ≡ true → first t found none x (n - x) ≡ found x
  first_here x n h e = opened x n h ∙ rw e

  pub first_next : (x n : ℕ) → x < n → t x ≡ false → first t found none x (n - x) ≡ first t found none (x + 1) (n - (x + 1))
  first_next x n h e = opened x n h ∙ rw e

  -- whatever holds of the first place that is found, with none before it, and of `none` where there is no such place, holds
  pub first_says : (P : A → Type 0) (x k : ℕ)
      → ((y : ℕ) → x ≤ y → y < x + k → t y ≡ true → ((z : ℕ) → x ≤ z → z < y → t z ≡ false) → P (found y))
      → (((z : ℕ) → x ≤ z → z < x + k → t z ≡ false) → P none)
      → P (first t found none x k)
  unfolding first
  first_says P x zero hit miss = miss (λ z p q. absurd (omega arith))
  first_says P x (suc k) hit miss =
      go (t x) refl
      (λ e. first_says P (x + 1) k
      (λ y p q u before. hit y (omega arith) (omega arith) u (λ z zp zq. at e z zp (λ l. before z l zq) (ℕ_discrete z x)))
      (λ none. miss (λ z zp zq. at e z zp (λ l. none z l (omega arith)) (ℕ_discrete z x))))
    where
      at : t x ≡ false → (z : ℕ) → x ≤ z → (x + 1 ≤ z → t z ≡ false) → Dec (z ≡ x) → t z ≡ false
      at e z p rest (yes d) = ap t d ∙ e
      at e z p rest (no d) = rest (omega arith)

      go : (b : Bool) → t x ≡ b → (t x ≡ false → P (first t found none (x + 1) k)) → P (pick (t x) (found x) (first t found none (x + 1) k))
      go true e rest = rw e (hit x (omega arith) (omega arith) e (λ z p q. absurd (omega arith)))
      go false e rest = rw e (rest e)

module _ {A : Type 0} (t : ℕ → ℕ → Bool) (found : ℕ → ℕ → A) (none : A) (cols : ℕ) where
  pub rows_end : (r n : ℕ) → n ≤ r → first_dot t found none cols r (n - r) ≡ none
  unfolding first_dot
  rows_end r n h = let e : n - r ≡ 0 = omega arith in ap (first_dot t found none cols r) e

  pub rows_next : (r n : ℕ) → r < n
      → first_dot t found none cols r (n - r) ≡ first (t r) (found r) (first_dot t found none cols (r + 1) (n - (r + 1))) 0 (cols - 0)
  unfolding first_dot
  rows_next r n h =
      let e : n - r ≡ suc (n - (r + 1)) = omega arith in
      let z : cols ≡ cols - 0 = omega arith in
      ap (first_dot t found none cols r) e ∙ ap (first (t r) (found r) (first_dot t found none cols (r + 1) (n - (r + 1))) 0) z

  -- whatever holds of the first dot that is found, with none before it, and of `none` where there is no such dot, holds
  pub first_dot_says : (P : A → Type 0) (r k : ℕ)
      → ((s x : ℕ) → r ≤ s → s < r + k → x < cols → t s x ≡ true → ((i y : ℕ) → r ≤ i → y < cols → Before i y s x → t i y ≡ false) → P (found s x))
      → (((i y : ℕ) → r ≤ i → i < r + k → y < cols → t i y ≡ false) → P none)
      → P (first_dot t found none cols r k)
  unfolding first_dot
  first_dot_says P r zero hit miss = miss (λ i y p q h. absurd (omega arith))
  first_dot_says P r (suc k) hit miss =
      first_says (t r) (found r) (first_dot t found none cols (r + 1) k) P 0 cols
      (λ x _ q u before. hit r x (omega arith) (omega arith) (omega arith) u (λ i y p h b. in_row i y x p before b))
      (λ row.
      first_dot_says P (r + 1) k
      (λ s x p q h u before. hit s x (omega arith) (omega arith) h u (λ i y ip yh b. above row i y ip yh (λ l. before i y l yh b) (ℕ_discrete i r)))
      (λ rest. miss (λ i y ip iq yh. above row i y ip yh (λ l. rest i y l (omega arith) yh) (ℕ_discrete i r))))
    where
      in_row : (i y x : ℕ) → r ≤ i → ((z : ℕ) → 0 ≤ z → z < x → t r z ≡ false) → Before i y r x → t i y ≡ false
      in_row i y x p before (inl l) = absurd (omega arith)
      in_row i y x p before (inr e) = ap (λ (j : ℕ). t j y) e.0 ∙ before y (omega arith) e.1

      above : ((z : ℕ) → 0 ≤ z → z < 0 + cols → t r z ≡ false) → (i y : ℕ) → r ≤ i → y < cols → (r + 1 ≤ i → t i y ≡ false) → Dec (i ≡ r) → t i y ≡ false
      above row i y p h rest (yes d) = ap (λ (j : ℕ). t j y) d ∙ row y (omega arith) (omega arith)
      above row i y p h rest (no d) = rest (omega arith)
