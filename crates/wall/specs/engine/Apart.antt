-- How wide a gap is, and how many rows a drawing has, with the bounds that their callers need.
use Rattle.std.specs.Prelude.{ℕ, ◌≤◌, ◌≡◌, Bool, true}
use Rattle.chip.specs.Sizes.{most_lines}
use Rattle.picture.specs.Pattern.{tall}
use Rattle.wall.specs.Apart.{gap_of, span_of, rows_drawn}

pub record Gap (apart : Bool) (r : ℕ) : Type 0 where
  pub is : r ≡ gap_of apart
  pub few : r ≤ gap_of true

pub record RowsDrawn (apart : Bool) (chip r : ℕ) : Type 0 where
  pub is : r ≡ rows_drawn apart chip
  pub few : r ≤ span_of (gap_of true) tall most_lines
