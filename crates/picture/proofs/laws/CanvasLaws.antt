-- A painter's loop over a canvas: steps in order, which leave its wiring and the frame that it was lent.
use Rattle.std.specs.Prelude.{ℕ, ◌+◌, ◌≤◌, ◌<◌, ◌≡◌, refl, List}
use Rattle.std.proofs.Common.{ap, ◌∙◌}
use Rattle.dots.specs.engine.Cells.{in_order}
use Rattle.dots.specs.laws.ThroughLaws.{Through, through_start, through_next, through_end}
use Rattle.picture.specs.declared.mode.Wiring.{Wiring}
use Rattle.picture.specs.declared.canvas.Canvas.{Canvas}
use Rattle.picture.specs.engine.Canvas.{Drawn}

-- after k of n steps
pub record Painting (step : Wiring → ℕ → List ℕ → List ℕ) (n : ℕ) (before after : Canvas) (k : ℕ) : Type 0 where
  pub wired_as : after.wiring ≡ before.wiring
  pub lent : after.frame.ghost_name ≡ before.frame.ghost_name
  pub through : Through (step before.wiring) n before.frame.now after.frame.now k

module _ (step : Wiring → ℕ → List ℕ → List ℕ) (n : ℕ) (before : Canvas) where
  pub painting_start : Painting step n before before 0
  painting_start = record { wired_as = refl; lent = refl; through = through_start (step before.wiring) n before.frame.now }

  pub painting_next : (now after : Canvas) (k : ℕ) → Painting step n before now k → k < n → Drawn now after (step now.wiring k now.frame.now)
      → Painting step n before after (k + 1)
  painting_next now after k P h D = record {
    wired_as = D.wired_as ∙ P.wired_as;
    lent = D.lent ∙ P.lent;
    through = through_next (step before.wiring) n before.frame.now now.frame.now after.frame.now k P.through h
        (D.frame_is ∙ ap (λ (w : Wiring). step w k now.frame.now) P.wired_as);
  }

  pub painting_end : (after : Canvas) (k : ℕ) → Painting step n before after k → n ≤ k → Drawn before after (in_order (step before.wiring) n before.frame.now)
  painting_end after k P h = record {
    wired_as = P.wired_as;
    lent = P.lent;
    frame_is = through_end (step before.wiring) n before.frame.now after.frame.now k P.through h;
  }
