-- What a painter's step does to its canvas.
use Rattle.std.specs.Prelude.{ℕ, ◌≡◌, List}
use Rattle.picture.specs.declared.canvas.Canvas.{Canvas}

-- it is wired as it was and has the frame that it was lent, which now is f
pub record Drawn (before after : Canvas) (f : List ℕ) : Type 0 where
  pub wired_as : after.wiring ≡ before.wiring
  pub lent : after.frame.ghost_name ≡ before.frame.ghost_name
  pub frame_is : after.frame.now ≡ f
