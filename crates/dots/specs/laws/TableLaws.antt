-- Laws of `table` and `in_order`.
use Rattle.std.specs.Prelude.{ℕ, zero, suc, ◌+◌, ◌≤◌, ◌<◌, ◌≡◌, refl, List, ◌∷◌, length, get_or, replicate}
use Rattle.std.proofs.Common.{sym, ap, ap₂, subst, ◌∙◌, not-suc-le-zero, le_of_suc-le-suc, add-one, arith, ext_get_or}
use Rattle.std.proofs.Math.Decide.{ℕ_discrete}
use Rattle.std.specs.Array.{IsFromFnResultFrom, IsFromFnResult}
use denote.Param.Members.{Mut, Called}
use Rattle.dots.specs.Table.{table}
use Rattle.dots.specs.engine.Cells.{in_order}

pub length_table : {A : Type 0} (h : ℕ → A) (n : ℕ) → length (table h n) ≡ n
unfolding table
length_table h zero = refl
length_table h (suc n) = ap suc (length_table (λ i. h (suc i)) n)

pub get_d_table : {A : Type 0} (h : ℕ → A) (n i : ℕ) (d : A) → i < n → get_or (table h n) i d ≡ h i
unfolding table
get_d_table h zero i d p = absurd (not-suc-le-zero p)
get_d_table h (suc n) zero d p = refl
get_d_table h (suc n) (suc i) d p = get_d_table (λ k. h (suc k)) n i d (le_of_suc-le-suc p)

pub table_cong : {A : Type 0} (f g : ℕ → A) (n : ℕ) → ((i : ℕ) → i < n → f i ≡ g i) → table f n ≡ table g n
unfolding table
table_cong f g zero e = refl
table_cong {A} f g (suc n) e =
    ap₂ (λ (x : A) (t : List A). x ∷ t) (e 0 (omega arith)) (table_cong (λ i. f (suc i)) (λ i. g (suc i)) n (λ i p. e (suc i) (below p)))
  where
    below : {i m : ℕ} → i < m → suc i < suc m
    below p = omega arith

pub table_const : (a n : ℕ) → table (λ i. a) n ≡ replicate n a
unfolding table
table_const a zero = refl
table_const a (suc n) = ap (λ (t : List ℕ). a ∷ t) (table_const a n)

pub is_table : {A : Type 0} (h : ℕ → A) (n : ℕ) (l : List A) (d : A) → length l ≡ n → ((i : ℕ) → i < n → get_or l i d ≡ h i) → l ≡ table h n
is_table h n l d long at =
    ext_get_or d l (table h n) (long ∙ sym (length_table h n))
    (λ k q. at k (omega (arith, long)) ∙ sym (get_d_table h n k d (omega (arith, long))))

-- an array that `from_fn` makes, by a closure f that answers h and stays as it is
module _ {F A : Type 0} (g : Mut F (ℕ × Unit {0}) A) (h : ℕ → A) (f : F) (l : List A) (d : A) where
  made_from : (i n : ℕ) → ((k : ℕ) (y : A) (q : F) → k < i + n → Called g f (k, tt) y q → (q ≡ f) × (y ≡ h k))
      → IsFromFnResultFrom g f l i n → (k : ℕ) → i ≤ k → k < i + n → get_or l k d ≡ h k
  made_from i zero e r k p q = absurd (omega arith)
  made_from i (suc n) e (to, y, at, called, rest) k p q =
      let made : (to ≡ f) × (y ≡ h i) = e i y to (omega arith) called in
      elim (ℕ_discrete k i) [
        | yes same ↦ ap (λ (j : ℕ). get_or l j d) same ∙ at.1 d ∙ made.1 ∙ ap h (sym same)
        | no other ↦ made_from (i + 1) n (λ j z u b. e j z u (omega arith)) (subst (λ (t : F). IsFromFnResultFrom g t l (i + 1) n) made.0 rest) k (omega arith) (omega arith)
      ]

  pub made_table : (n : ℕ) → IsFromFnResult g f l n → ((k : ℕ) (y : A) (q : F) → k < n → Called g f (k, tt) y q → (q ≡ f) × (y ≡ h k)) → l ≡ table h n
  made_table n r e =
      is_table h n l d r.long (λ i p. made_from 0 n (λ k y q h. e k y q (omega arith)) r.each i (omega arith) (omega arith))

pub in_order_none : {A : Type 0} (step : ℕ → A → A) (a : A) → in_order step 0 a ≡ a
unfolding in_order
in_order_none step a = refl

-- the last step apart, as the code counts
pub in_order_more : {A : Type 0} (step : ℕ → A → A) (n : ℕ) (a : A) → in_order step (n + 1) a ≡ step n (in_order step n a)
unfolding in_order
in_order_more step n a = rw add-one

-- what each step keeps, all of them keep
pub in_order_keeps : {A : Type 0} (Q : A → Type 0) (step : ℕ → A → A) (n : ℕ)
    → ((m : ℕ) → m < n → (a : A) → Q a → Q (step m a)) → (a : A) → Q a → Q (in_order step n a)
unfolding in_order
in_order_keeps Q step zero h a q = q
in_order_keeps Q step (suc n) h a q =
    h n (omega arith) (in_order step n a) (in_order_keeps Q step n (λ m p. h m (omega arith)) a q)
