-- A painter's loop: steps in order.
use Rattle.std.specs.Prelude.{ℕ, ◌+◌, ◌≤◌, ◌<◌, ◌≡◌, refl, List, length}
use Rattle.std.proofs.Common.{sym, ap, ◌∙◌, arith}
use Rattle.dots.specs.engine.Cells.{in_order, strip, block, line}
use Rattle.dots.specs.laws.TableLaws.{in_order_none, in_order_more, in_order_keeps}
use Rattle.dots.specs.Landing.{Landing}
use Rattle.dots.specs.laws.LandingLaws.{length_put}

-- after k of n steps from the frame f₀: the frame f
pub record Through (step : ℕ → List ℕ → List ℕ) (n : ℕ) (f₀ f : List ℕ) (k : ℕ) : Type 0 where
  pub within : k ≤ n
  pub frame : f ≡ in_order step k f₀

module _ (step : ℕ → List ℕ → List ℕ) (n : ℕ) (f₀ : List ℕ) where
  pub through_start : Through step n f₀ f₀ 0
  through_start = record { within = omega arith; frame = sym (in_order_none step f₀) }

  pub through_next : (f f' : List ℕ) (k : ℕ) → Through step n f₀ f k → k < n → f' ≡ step k f → Through step n f₀ f' (k + 1)
  through_next f f' k T h e = record {
    within = omega arith;
    frame = e ∙ ap (step k) T.frame ∙ sym (in_order_more step k f₀);
  }

  pub through_end : (f : List ℕ) (k : ℕ) → Through step n f₀ f k → n ≤ k → f ≡ in_order step n f₀
  through_end f k T h =
      let e : k ≡ n = omega (arith, T.within) in
      T.frame ∙ ap (λ (i : ℕ). in_order step i f₀) e

  -- where no step changes the length of a frame
  pub through_long : ((i : ℕ) (f : List ℕ) → length (step i f) ≡ length f) → (f : List ℕ) (k : ℕ)
      → Through step n f₀ f k → length f ≡ length f₀
  through_long e f k T =
      ap length T.frame ∙ in_order_keeps (λ f. length f ≡ length f₀) step k (λ i _ f h. e i f ∙ h) f₀ refl

-- a column of a cell, a cell and a line keep the length
module _ (L : Landing) (tall wide : ℕ) where
  pub length_strip : (v : ℕ → ℕ) (r x : ℕ) (f : List ℕ) → length (strip L tall v r x f) ≡ length f
  length_strip v r x f =
      in_order_keeps (λ f'. length f' ≡ length f) _ tall (λ i _ f' h. length_put L f' _ x (v i) ∙ h) f refl

  pub length_block : (v : ℕ → ℕ → ℕ) (r x : ℕ) (f : List ℕ) → length (block L tall wide v r x f) ≡ length f
  length_block v r x f =
      in_order_keeps (λ f'. length f' ≡ length f) _ wide (λ c _ f' h. length_strip (λ i. v i c) r _ f' ∙ h) f refl

  pub length_line : (across : ℕ) (v : ℕ → ℕ → ℕ → ℕ) (r : ℕ) (f : List ℕ) → length (line L tall wide across v r f) ≡ length f
  length_line across v r f =
      in_order_keeps (λ f'. length f' ≡ length f) _ across (λ p _ f' h. length_block (v p) r _ f' ∙ h) f refl
