-- What holds of the sizes, whatever the chip.
use Rattle.std.specs.Prelude.{ℕ, ◌%◌, ◌<◌, ◌≤◌, refl, Bool, true, false, eqb}
use Rattle.std.proofs.Common.{arith, mod-lt}
use Rattle.laws.specs.Pick.{pick}
use Rattle.chip.specs.Sizes.{lines_of, two_lines, most_lines, places_of, display_size, Places}

-- a chip has a line, and no more than the most
pub lines_some : (chip : ℕ) → 0 < lines_of chip
lines_some chip = by (eqb chip two_lines)
  where
    by : (b : Bool) → 0 < pick b 2 1
    by true = omega arith
    by false = omega arith

pub lines_few : (chip : ℕ) → lines_of chip ≤ most_lines
lines_few chip = by (eqb chip two_lines)
  where
    by : (b : Bool) → pick b 2 1 ≤ most_lines
    by true = omega arith
    by false = omega arith

-- a chip has a place, and no more than display memory has
pub places : (chip : ℕ) → Places chip (places_of chip)
places chip = record { is = refl; some = omega (arith, lines_some chip); fits = omega (arith, lines_few chip) }

-- a place that is counted round a chip's own lies in display memory
pub place_below : (chip a : ℕ) → a % places_of chip < display_size
place_below chip a = let h = mod-lt a (places chip).some in omega (arith, (places chip).fits, h)
