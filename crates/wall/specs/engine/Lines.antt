-- How many rows of dots a line shows, and how many lines there are, with the bounds that their callers need.
use Rattle.std.specs.Prelude.{ℕ, ◌≤◌, ◌<◌, ◌≡◌, Bool, true}
use Rattle.chip.specs.Sizes.{most_lines}
use Rattle.picture.specs.Pattern.{tall}
use Rattle.wall.specs.Apart.{gap_of, span_of}
use Rattle.wall.specs.Draw.{lines_drawn, rows_shown}

pub record RowsShown (pairs : Bool) (r : ℕ) : Type 0 where
  pub is : r ≡ rows_shown pairs
  pub some : 0 < r
  pub few : r ≤ 2

pub record LinesDrawn (apart : Bool) (chip : ℕ) (pairs : Bool) (r : ℕ) : Type 0 where
  pub is : r ≡ lines_drawn apart chip pairs
  pub few : r ≤ span_of (gap_of true) tall most_lines
