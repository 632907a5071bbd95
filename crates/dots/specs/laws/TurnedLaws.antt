-- What turning a landing does to a frame: nothing but the places of its dots.
use Rattle.std.specs.Prelude.{ℕ, ◌<◌, ◌≡◌, Bool, get_or}
use Rattle.std.proofs.Math.Path.{refl}
use Rattle.std.proofs.Common.{sym, ap, ap₂, ◌∙◌}
use Rattle.laws.specs.Bit.{bit, one}
use Rattle.dots.specs.Landing.{Landing, dot, dots_frame, count_of}
use Rattle.dots.specs.Turned.{Turn, turned}
use Rattle.dots.specs.engine.Ones.{ones_of}
use Rattle.dots.specs.laws.LandingLaws.{dot_frame, spare_frame, length_frame, bytes_frame, is_frame}
use Rattle.dots.specs.laws.OnesLaws.{ones_frame}

module _ (L : Landing) (rows : Turn L.rows) (columns : Turn L.cols) where
  -- L turned, and turned again
  abbrev once : Landing
  once = turned L rows columns

  abbrev again : Landing
  again = turned once rows columns

  -- the frame turned shows at L's own places the dots turned
  pub turned_frame : (g : ℕ → ℕ → Bool) → dots_frame once g ≡ dots_frame L (λ r x. g (rows.at r) (columns.at x))
  unfolding dots_frame
  turned_frame g = refl

  -- and at the places that they take the dots themselves
  pub turned_dot : (g : ℕ → ℕ → Bool) (r x : ℕ) → r < L.rows → x < L.cols → dot L (dots_frame once g) (rows.at r) (columns.at x) ≡ one (g r x)
  turned_dot g r x p q = dot_frame once g r x p q

  -- turning twice is not turning: every dot lands where it did
  pub twice_lands : (r x : ℕ) → r < L.rows → x < L.cols → (again.byte_at r x ≡ L.byte_at r x) × (again.bit_at r x ≡ L.bit_at r x)
  twice_lands r x p q = (
    ap₂ L.byte_at (rows.twice r p) (columns.twice x q),
    ap₂ L.bit_at (rows.twice r p) (columns.twice x q),
  )

  -- and the frame is the one that was not turned
  pub twice_frame : (g : ℕ → ℕ → Bool) → dots_frame again g ≡ dots_frame L g
  twice_frame g =
      is_frame L g (dots_frame again g) (length_frame again g) (bytes_frame again g)
      (λ r x p q. let lands = twice_lands r x p q in
      sym (ap₂ (λ (b i : ℕ). bit (get_or (dots_frame again g) b 0) i) lands.0 lands.1) ∙ dot_frame again g r x p q)
      (spare_frame again g)

  -- as many dots are lit, however they are turned
  pub turned_count : (g : ℕ → ℕ → Bool) → count_of once g ≡ count_of L g
  unfolding count_of
  turned_count g = refl

  pub count_turned : (g : ℕ → ℕ → Bool) → count_of L (λ r x. g (rows.at r) (columns.at x)) ≡ count_of L g
  count_turned g =
      sym (ones_frame L (λ r x. g (rows.at r) (columns.at x)))
      ∙ ap ones_of (sym (turned_frame g)) ∙ ones_frame once g ∙ turned_count g
