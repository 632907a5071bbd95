-- The drawing of a frame whose cells stand apart, and of one whose cells do not (docs/WALL.md, "Cells apart"). Columns and rows are
-- spread by the same rule: cells of n, and gaps of g between them.
use Rattle.std.specs.Prelude.{ℕ, ◌+◌, ◌-◌, ◌*◌, ◌/◌, ◌%◌, Bool, true, false, List, leb}
use Rattle.laws.specs.Pick.{pick}
use Rattle.chip.specs.Sizes.{lines_of, positions}
use Rattle.picture.specs.Frame.{lit_at}
use Rattle.picture.specs.Pattern.{tall, wide}

-- between two cells there is one blank column or row, or none
abbrev pub gap_of : Bool → ℕ
gap_of apart = pick apart 1 0

-- how many there are of m cells, with the gaps between them
abbrev pub span_of : ℕ → ℕ → ℕ → ℕ
span_of g n m = m * n + (m - 1) * g

-- i of them lies in a gap
abbrev pub is_gap : ℕ → ℕ → ℕ → Bool
is_gap g n i = leb n (i % (n + g))

-- which of the frame's it shows, where it lies in none
abbrev pub dot_at : ℕ → ℕ → ℕ → ℕ
dot_at g n i = i / (n + g) * n + i % (n + g)

-- the columns and the rows of the drawing
abbrev pub columns_drawn : Bool → ℕ
columns_drawn apart = span_of (gap_of apart) wide positions

abbrev pub rows_drawn : Bool → ℕ → ℕ
rows_drawn apart chip = span_of (gap_of apart) tall (lines_of chip)

-- column x of row r is blank: one of the two lies in a gap
abbrev pub blank_at : Bool → ℕ → ℕ → Bool
blank_at apart r x = pick (is_gap (gap_of apart) tall r) true (is_gap (gap_of apart) wide x)

-- column x of row r is lit: the frame's dot there is, and a blank one is not
abbrev pub lit_drawn : Bool → ℕ → List ℕ → ℕ → ℕ → Bool
lit_drawn apart chip f r x = pick (blank_at apart r x) false (lit_at chip f (dot_at (gap_of apart) tall r) (dot_at (gap_of apart) wide x))
