-- Laws of `sum`.
use Prim.Native.Nat.{ℕ, zero, suc, ◌+◌, ◌*◌, ◌/◌, ◌%◌, ◌<◌}
use Rattle.std.specs.Prelude.{◌≡◌, refl, eqb, List, [], ◌∷◌, length, get_or, sum_by}
use Rattle.std.proofs.Common.{sym, ap₂, ◌∙◌, add-zero, add-suc, suc-mul, zero-mul, not-suc-le-zero, add-one, arith, eq-eqb, ne_eqb}
use Rattle.std.proofs.Math.Path.{ap}
use Rattle.std.proofs.Math.Decide.{ℕ_discrete}
use Rattle.std.proofs.lemmas.List.Sums.{sum_by-cons}
use Rattle.laws.specs.Pick.{pick}
use Rattle.dots.specs.Table.{sum}
use Rattle.dots.specs.laws.PartsLaws.{part_back, place_back}

pub sum_none : (f : ℕ → ℕ) → sum f 0 ≡ 0
unfolding sum
sum_none f = refl

-- the last apart, as the code counts
pub sum_more : (f : ℕ → ℕ) (n : ℕ) → sum f (n + 1) ≡ sum f n + f n
unfolding sum
sum_more f n = rw add-one

-- the first apart
pub sum_first : (f : ℕ → ℕ) (n : ℕ) → sum f (suc n) ≡ f 0 + sum (λ i. f (suc i)) n
unfolding sum
sum_first f zero = omega arith
sum_first f (suc n) = omega (arith, sum_first f n)

pub sum_cong : (f g : ℕ → ℕ) (n : ℕ) → ((i : ℕ) → i < n → f i ≡ g i) → sum f n ≡ sum g n
unfolding sum
sum_cong f g zero e = refl
sum_cong f g (suc n) e = ap₂ (λ (x y : ℕ). x + y) (sum_cong f g n (λ i p. e i (omega arith))) (e n (omega arith))

pub sum_add : (f : ℕ → ℕ) (m n : ℕ) → sum f (m + n) ≡ sum f m + sum (λ i. f (m + i)) n
unfolding sum
sum_add f m zero = ap (sum f) (add-zero m) ∙ sym (add-zero (sum f m))
sum_add f m (suc n) = rw add-suc (omega (arith, sum_add f m n))

-- a sum over m blocks of k
pub sum_blocks : (f : ℕ → ℕ) (m k : ℕ) → sum f (m * k) ≡ sum (λ i. sum (λ j. f (i * k + j)) k) m
unfolding sum
sum_blocks f zero k = ap (sum f) (zero-mul k)
sum_blocks f (suc m) k =
    ap (sum f) (suc-mul m k) ∙ sum_add f (m * k) k
    ∙ ap (λ (x : ℕ). x + sum (λ j. f (m * k + j)) k) (sum_blocks f m k)

sum_zero : (n : ℕ) → sum (λ i. 0) n ≡ 0
unfolding sum
sum_zero zero = refl
sum_zero (suc n) = omega (arith, sum_zero n)

-- m rows of n are m n places
pub sum_pairs : (v : ℕ → ℕ → ℕ) (m n : ℕ) → sum (λ i. sum (v i) n) m ≡ sum (λ k. v (k / n) (k % n)) (m * n)
sum_pairs v m n =
    sym
    (sum_blocks (λ k. v (k / n) (k % n)) m n
    ∙ sum_cong (λ i. sum (λ j. v ((i * n + j) / n) ((i * n + j) % n)) n) (λ i. sum (v i) n) m
    (λ i _. sum_cong (λ j. v ((i * n + j) / n) ((i * n + j) % n)) (v i) n (λ j q. ap₂ v (part_back n i j q) (place_back n i j q))))

-- h, but 0 at a
abbrev without : (ℕ → ℕ) → ℕ → ℕ → ℕ
without h a j = pick (eqb j a) 0 (h j)

-- one part apart
sum_without : (h : ℕ → ℕ) (n a : ℕ) → a < n → sum h n ≡ sum (without h a) n + h a
unfolding sum
sum_without h zero a p = absurd (not-suc-le-zero p)
sum_without h (suc n) a p = by (ℕ_discrete n a) (λ d. sum_without h n a (omega arith))
  where
    by : Dec (n ≡ a) → ((n ≡ a → ⊥) → sum h n ≡ sum (without h a) n + h a) → sum h n + h n ≡ sum (without h a) n + without h a n + h a
    by (yes e) earlier =
        let last : without h a n ≡ 0 = rw (eq-eqb n a e) in
        omega (arith, last, ap h e, sum_cong h (without h a) n (λ j q. rw (ne_eqb j a (omega arith))))
    by (no d) earlier =
        let last : without h a n ≡ h n = rw (ne_eqb n a d) in
        omega (arith, last, earlier d)

-- places that are led to one by one, no two to the same: what is 0 at every other adds up to what stands at these
module _ (m : ℕ) (to : ℕ → ℕ) where
  pub sum_reached : (n : ℕ) (h : ℕ → ℕ) → ((k : ℕ) → k < n → to k < m)
      → ((k l : ℕ) → k < n → l < n → to k ≡ to l → k ≡ l)
      → ((j : ℕ) → j < m → ((k : ℕ) → k < n → to k ≡ j → ⊥) → h j ≡ 0)
      → sum h m ≡ sum (λ k. h (to k)) n
  unfolding sum
  sum_reached zero h within apart off =
      sum_cong h (λ j. 0) m (λ j p. off j p (λ k q. absurd (not-suc-le-zero q))) ∙ sum_zero m
  sum_reached (suc n) h within apart off =
      sum_without h m (to n) (within n (omega arith))
      ∙ ap (λ (x : ℕ). x + h (to n))
      (sum_reached n (without h (to n)) (λ k p. within k (omega arith)) (λ k l p q. apart k l (omega arith) (omega arith)) (λ j p none. by j p none (ℕ_discrete j (to n)))
      ∙ sum_cong (λ k. without h (to n) (to k)) (λ k. h (to k)) n
      (λ k p. rw (ne_eqb (to k) (to n) (λ e. let z : k ≡ n = apart k n (omega arith) (omega arith) e in omega arith))))
    where
      by : (j : ℕ) → j < m → ((k : ℕ) → k < n → to k ≡ j → ⊥) → Dec (j ≡ to n) → without h (to n) j ≡ 0
      by j p none (yes e) = rw (eq-eqb j (to n) e)
      by j p none (no d) = rw (ne_eqb j (to n) d) (off j p (λ k q e. at k q e (ℕ_discrete k n)))
        where
          at : (k : ℕ) → k < suc n → to k ≡ j → Dec (k ≡ n) → ⊥
          at k q e (yes z) = d (sym e ∙ ap to z)
          at k q e (no z) = none k (omega arith) e

-- the values of a list's elements, added up
pub sum_list : (f : ℕ → ℕ) (l : List ℕ) → sum_by f l ≡ sum (λ i. f (get_or l i 0)) (length l)
unfolding sum
sum_list f [] = refl
sum_list f (x ∷ l) = sum_by-cons f x l ∙ ap (λ (n : ℕ). f x + n) (sum_list f l) ∙ sym (sum_first (λ i. f (get_or (x ∷ l) i 0)) (length l))
