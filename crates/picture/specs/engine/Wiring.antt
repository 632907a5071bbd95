-- How a glass is wired, as the painter is told it, and the place that a row or column takes.
use Rattle.std.specs.Prelude.{ℕ, ◌<◌, ◌≡◌}
use Rattle.dots.specs.Landing.{Landing}
use Rattle.dots.specs.Turned.{Turn}
use Rattle.chip.specs.declared.registers.Registers.{Registers}
use Rattle.picture.specs.Mode.{mode_b, glass_in}
use Rattle.picture.specs.declared.mode.Wiring.{Wiring}

abbrev pub wiring_of : Registers → Wiring
wiring_of r = record { chip = r.chip; turned = mode_b r }

-- where a dot lands on it
abbrev pub wired : Wiring → Landing
wired w = glass_in w.chip w.turned

-- r is the place that k takes, which is one of the n
pub record Takes {n : ℕ} (turn : Turn n) (k r : ℕ) : Type 0 where
  pub is : r ≡ turn.at k
  pub inside : r < n
