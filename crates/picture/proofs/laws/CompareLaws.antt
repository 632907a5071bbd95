-- What the answers of a comparison mean.
use Prim.Native.Nat.{ℕ, zero, suc, ◌+◌}
use Rattle.std.specs.Prelude.{◌≡◌, Bool, true, not, List, eqb, length, Some, None, Ok, Err}
use Rattle.std.proofs.Math.Path.{refl, subst, ap}
use Rattle.std.proofs.Common.{ap₂, ◌∙◌, arith}
use Rattle.std.proofs.Math.Bool.{false}
use Rattle.std.proofs.Math.Option.{Option, none, some}
use borrow.Author.Tests.{eq-eqb, not-true, not-false, eqb-true, eqb-false}
use Rattle.laws.specs.Pick.{pick}
use Rattle.dots.specs.Landing.{dot}
use Rattle.dots.specs.laws.LandingLaws.{Bytes, same_bytes}
use Rattle.dots.specs.First.{first, first_dot}
use Rattle.dots.specs.laws.FirstLaws.{first_dot_says}
use Rattle.chip.specs.Sizes.{is_known}
use Rattle.picture.specs.Frame.{glass}
use Rattle.picture.specs.Compare.{Compared, Compares, compare_paper, differ, differs_at, place_for, compared_of, FirstDifference, SameDots, Means}
use Rattle.mirror.specs.declared.answer.Refusal.TheVariants.{Size, Unsound}

module _ (chip : ℕ) (a b : List ℕ) (known : is_known chip ≡ true) (la : length a ≡ (glass chip).size) (lb : length b ≡ (glass chip).size) where
  sized : compared_of chip a b ≡ first_dot (differ chip a b) differs_at (Ok None) (glass chip).cols 0 (glass chip).rows
  sized = rw (known, eq-eqb (length a) (glass chip).size la, eq-eqb (length b) (glass chip).size lb)

  -- the answer is the first difference where it names a place; it says none only where every dot is equal; it is no refusal
  pub compared_means : Means chip a b (compared_of chip a b)
  unfolding Means
  compared_means =
      rw sized
      (first_dot_says (differ chip a b) differs_at (Ok None) (glass chip).cols (Means chip a b) 0 (glass chip).rows
      (λ r x _ p q e before. record {
        row_in = omega arith;
        column_in = q;
        differs = eqb-false (dot (glass chip) a r x) (dot (glass chip) b r x) (not-true (eqb (dot (glass chip) a r x) (dot (glass chip) b r x)) e);
        none_before = (λ i y h k. same i y (before i y (omega arith) h k));
      })
      (λ none r x p q. same r x (none r x (omega arith) (omega arith) q)))
    where
      same : (i y : ℕ) → differ chip a b i y ≡ false → dot (glass chip) a i y ≡ dot (glass chip) b i y
      same i y e = eqb-true (dot (glass chip) a i y) (dot (glass chip) b i y) (not-false (eqb (dot (glass chip) a i y) (dot (glass chip) b i y)) e)

  -- a place that is named is the first difference
  pub at_first : (r x : ℕ) → compared_of chip a b ≡ differs_at r x → FirstDifference chip a b r x
  unfolding Means
  at_first r x e = subst (Means chip a b) e compared_means

  -- none is said exactly where every dot is equal
  pub same_equal : compared_of chip a b ≡ Ok None → SameDots chip a b
  unfolding Means
  same_equal e = subst (Means chip a b) e compared_means

  pub equal_same : SameDots chip a b → compared_of chip a b ≡ Ok None
  unfolding Means
  equal_same e = by (compared_of chip a b) compared_means
    where
      by : (c : Compared) → Means chip a b c → c ≡ Ok None
      by (Ok (Some d)) m = absurd (m.differs (e d.row d.column m.row_in m.column_in))
      by (Ok None) m = refl
      by (Err refusal) m = absurd m

  -- every bit of the frame is some dot's, so the frames are then the same bytes
  pub same_frames : compared_of chip a b ≡ Ok None → Bytes a → Bytes b → a ≡ b
  same_frames e ba bb = same_bytes (glass chip) (λ _ _ _ _. refl) a b la lb ba bb (same_equal e)

-- what is said of the first place is said of the place alone
module _ {A B : Type 0} (f : A → B) where
  picked : (b : Bool) (x y : A) (z : B) → f y ≡ z → f (pick b x y) ≡ pick b (f x) z
  picked true x y z e = refl
  picked false x y z e = e

  first_said : (t : ℕ → Bool) (found : ℕ → A) (rest : A) (x k : ℕ) → f (first t found rest x k) ≡ first t (λ x. f (found x)) (f rest) x k
  unfolding first
  first_said t found rest x zero = refl
  first_said t found rest x (suc k) = picked (t x) (found x) _ _ (first_said t found rest (x + 1) k)

  first_dot_said : (t : ℕ → ℕ → Bool) (found : ℕ → ℕ → A) (rest : A) (cols r k : ℕ)
      → f (first_dot t found rest cols r k) ≡ first_dot t (λ r x. f (found r x)) (f rest) cols r k
  unfolding first_dot
  first_dot_said t found rest cols r zero = refl
  first_dot_said t found rest cols r (suc k) =
      first_said (t r) (found r) (first_dot t found rest cols (r + 1) k) 0 cols
      ∙ ap (λ (b : B). first (t r) (λ x. f (found r x)) b 0 cols) (first_dot_said t found rest cols (r + 1) k)

-- the answer on paper: 10 exactly where the chip is unknown, then 9 where a frame has another size, and then no place; otherwise
-- the first, or none
pub compares : (chip : ℕ) (a b : List ℕ) (answer : Compared) → answer ≡ compared_of chip a b → Compares chip a b answer
compares chip a b answer e = record {
  told = e;
  paper = ap compare_paper e ∙ by (not (is_known chip)) (not (eqb (length a) (glass chip).size)) (not (eqb (length b) (glass chip).size))
      (first_dot (differ chip a b) differs_at (Ok None) (glass chip).cols 0 (glass chip).rows)
      (first_dot_says (differ chip a b) differs_at (Ok None) (glass chip).cols (λ c. (compare_paper c).number ≡ none) 0 (glass chip).rows (λ _ _ _ _ _ _ _. refl) (λ _. refl))
      (first_dot_said (λ c. (compare_paper c).place) (differ chip a b) differs_at (Ok None) (glass chip).cols 0 (glass chip).rows);
}
  where
    number : Bool → Bool → Bool → Option ℕ
    number u p q = pick u (some 10) (pick p (some 9) (pick q (some 9) none))

    by : (u p q : Bool) (c : Compared) → (compare_paper c).number ≡ none → (compare_paper c).place ≡ place_for none chip a b
        → compare_paper (pick u (Err Unsound) (pick p (Err Size) (pick q (Err Size) c))) ≡ record { number = number u p q; place = place_for (number u p q) chip a b }
    by true p q c h k = refl
    by false true q c h k = refl
    by false false true c h k = refl
    by false false false c h k = ap₂ (λ (n : Option ℕ) (place : Option (ℕ × ℕ)). record { number = n; place = place }) h k

-- a refused comparison names no place
pub refused_nowhere : (c : Compared) (n : ℕ) → (compare_paper c).number ≡ some n → (compare_paper c).place ≡ none
refused_nowhere (Ok (Some d)) n e = cc
refused_nowhere (Ok None) n e = refl
refused_nowhere (Err refusal) n e = refl
