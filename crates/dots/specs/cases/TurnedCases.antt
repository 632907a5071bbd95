-- Turned landings, worked out by hand.
use Rattle.std.specs.Prelude.{ℕ, ◌≡◌, refl, Bool, true, false, ◌||◌, ◌&&◌, List, [], ◌∷◌, eqb}
use Rattle.laws.specs.Bit.{pack}
use Rattle.dots.specs.Table.{table}
use Rattle.dots.specs.Landing.{Landing, dots_frame}
use Rattle.dots.specs.ByRows.{by_rows}
use Rattle.dots.specs.Turned.{backward, parts_backward, turned, turned_if}
use Rattle.dots.specs.cases.OnesCases.{padded, three}

-- six rows as three parts of two: the last part first, each in order
abbrev places : List ℕ
places = table (λ r. (parts_backward 3 2).at r) 6

places_computed : places ≡ 4 ∷ 5 ∷ 2 ∷ 3 ∷ 0 ∷ 1 ∷ []
unfolding table
places_computed = refl

-- four rows of eight dots as two parts of two, turned both ways: the dots (0, 0) and (1, 2) lie at (2, 7) and (3, 5)
abbrev upside_down : Bool → Landing
upside_down b = turned (by_rows 4 1) (turned_if b (parts_backward 2 2)) (turned_if b (backward 8))

abbrev two : ℕ → ℕ → Bool
two r x = eqb r 0 && eqb x 0 || eqb r 1 && eqb x 2

turned_computed : dots_frame (upside_down true) two ≡ 0x00 ∷ 0x00 ∷ 0x01 ∷ 0x04 ∷ []
unfolding dots_frame table pack
turned_computed = refl

left_computed : dots_frame (upside_down false) two ≡ 0x80 ∷ 0x20 ∷ 0x00 ∷ 0x00 ∷ []
unfolding dots_frame table pack
left_computed = refl

-- three rows in bytes of eight, the rows alone turned: the dots (0, 0), (2, 0) and (1, 1) lie at (2, 0), (0, 0) and (1, 1), and the dot (0, 1) at (2, 1)
abbrev rows_backward : Landing
rows_backward = turned padded (backward 3) (turned_if false (backward 2))

padded_computed : dots_frame rows_backward three ≡ 0x05 ∷ 0x02 ∷ []
unfolding dots_frame table pack
padded_computed = refl

padded_top : dots_frame rows_backward (λ r x. eqb r 0 && eqb x 1) ≡ 0x00 ∷ 0x04 ∷ []
unfolding dots_frame table pack
padded_top = refl
