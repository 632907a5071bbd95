-- What is left to look at decides, all the way.
use Rattle.std.proofs.Common.{ℕ, List, ◌≡◌, ◌+◌, ◌-◌, ◌<◌, ◌≤◌, Option, None, Ok}
use Rattle.dots.specs.First.{first, first_dot}
use Rattle.picture.specs.Frame.{glass}
use Rattle.picture.specs.Compare.{Compared, differ, differs_at, compared_of}
use Rattle.picture.specs.declared.frame.Dot.{Dot}
use Rattle.picture.proofs.compare.compare.Given as goal

-- what is left from a row on, and from a dot on
abbrev pub from_row : ℕ → List ℕ → List ℕ → ℕ → Compared
from_row chip a b row = first_dot (differ chip a b) differs_at (Ok None) (glass chip).cols row ((glass chip).rows - row)

abbrev pub from_dot : ℕ → List ℕ → List ℕ → ℕ → ℕ → Compared
from_dot chip a b row column = first (differ chip a b row) (differs_at row) (from_row chip a b (row + 1)) column ((glass chip).cols - column)

pub record Seeking (chip : ℕ) (a b : List ℕ) (found : Option Dot) (left : Compared) : Type 0 where
  pub nothing : found ≡ None
  pub rest : compared_of chip a b ≡ left

abbrev pub invariant-loop-column : goal.invariant-loop-column
invariant-loop-column l =
    Seeking l.chip l.a l.b l.found (from_dot l.chip l.a l.b l.row l.column)
    × (l.row < (glass l.chip).rows)
    × (l.column ≤ (glass l.chip).cols)

abbrev pub invariant-rows : goal.invariant-rows
invariant-rows l = Seeking l.chip l.a l.b l.found (from_row l.chip l.a l.b l.row) × (l.row ≤ (glass l.chip).rows)
