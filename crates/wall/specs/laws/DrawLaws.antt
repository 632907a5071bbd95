-- What is put on a page column by column and line by line.
use Rattle.std.specs.Prelude.{ℕ, ◌+◌, ◌-◌, ◌*◌, ◌/◌, ◌<◌, ◌≤◌, ◌≡◌, refl, Bool, true, false, List, [], ◌++◌}
use Rattle.std.proofs.Common.{add-one, arith}
use Rattle.desk.specs.Page.{Puts}
use Rattle.desk.specs.declared.page.Page.{Page}
use Rattle.desk.specs.laws.PageLaws.{puts_none, puts_then}
use Rattle.wall.specs.Draw.{rows_shown, strung}

module _ (h : ℕ → List ℕ) where
  pub strung_first : strung h 0 ≡ []
  unfolding strung
  strung_first = refl

  pub strung_next : (n : ℕ) → strung h (n + 1) ≡ strung h n ++ h n
  unfolding strung
  strung_next n = rw (add-one n) refl

  pub strung_none : (p : Page) → Puts (strung h 0) p p
  unfolding strung
  strung_none p = puts_none p

  pub strung_more : {n : ℕ} {p q r : Page} → Puts (strung h n) p q → Puts (h n) q r → Puts (strung h (n + 1)) p r
  unfolding strung
  strung_more {n} P Q = rw (add-one n) (puts_then P Q)

-- for a loop with the invariant Puts (strung h l.i) l.initial.page l.page, beside PageLaws' `rows`
pub ruleset strings = (strung_first, strung_next)

-- the first row that a line shows is a row of the drawing
pub line_within : (pairs : Bool) (rows i : ℕ) → i < (rows + (rows_shown pairs - 1)) / rows_shown pairs → i * rows_shown pairs < rows
line_within true rows i h = omega arith
line_within false rows i h = omega arith

-- no more lines than rows
pub lines_few : (pairs : Bool) (rows : ℕ) → (rows + (rows_shown pairs - 1)) / rows_shown pairs ≤ rows
lines_few true rows = omega arith
lines_few false rows = omega arith
