-- What a comparison answers (document 01, "The picture", "Answer numbers"; of two lines, document 02, wish 1).
use Rattle.std.specs.Prelude.{ℕ, ◌<◌, ◌≡◌, Bool, not, List, eqb, length, Some, None, Result, Ok, Err}
use Rattle.std.specs.Prelude as code
use Rattle.std.proofs.Math.Option.{Option, none, some}
use Rattle.laws.specs.Pick.{pick}
use Rattle.dots.specs.Landing.{dot}
use Rattle.dots.specs.First.{first_dot, Before}
use Rattle.chip.specs.Sizes.{is_known}
use Rattle.picture.specs.Frame.{glass}
use Rattle.mirror.specs.Refusal.{refusal_number}
use Rattle.mirror.specs.declared.answer.Refusal.{Refusal}
use Rattle.mirror.specs.declared.answer.Refusal.TheVariants.{Size, Unsound}
use Rattle.picture.specs.declared.frame.Dot.{Dot}

-- the first dot that differs, if one does, or a refusal
abbrev pub Compared : Type 0
Compared = Result (code.Option Dot) Refusal

-- the dot (r, x) is the first that differs
abbrev pub differs_at : ℕ → ℕ → Compared
differs_at r x = Ok (Some (record { row = r; column = x }))

-- this paper's number of an answer, none where nothing was refused, and the place found, by row and column
pub record ComparePaper : Type 0 where
  pub number : Option ℕ
  pub place : Option (ℕ × ℕ)

abbrev pub compare_paper : Compared → ComparePaper
compare_paper (Ok (Some d)) = record { number = none; place = some (d.row, d.column) }
compare_paper (Ok None) = record { number = none; place = none }
compare_paper (Err refusal) = record { number = some (refusal_number refusal); place = none }

-- the two frames of a chip differ at the dot (r, x)
abbrev pub differ : ℕ → List ℕ → List ℕ → ℕ → ℕ → Bool
differ chip a b r x = not (eqb (dot (glass chip) a r x) (dot (glass chip) b r x))

-- the number by the paper's tests: 10 for an unknown chip, then 9 for a frame of another size than the chip's, and none otherwise
abbrev pub compare_number : ℕ → List ℕ → List ℕ → Option ℕ
compare_number chip a b =
    pick (not (is_known chip)) (some 10)
    (pick (not (eqb (length a) (glass chip).size)) (some 9) (pick (not (eqb (length b) (glass chip).size)) (some 9) none))

-- a refused comparison reports no place, any other the first dot, by rows, at which the frames differ, where there is one
abbrev pub place_for : Option ℕ → ℕ → List ℕ → List ℕ → Option (ℕ × ℕ)
place_for (some n) chip a b = none
place_for none chip a b = first_dot (differ chip a b) (λ r x. some (r, x)) none (glass chip).cols 0 (glass chip).rows

-- 10 before 9; otherwise the first dot, by rows, at which two frames differ, or that none does
abbrev pub compared_of : ℕ → List ℕ → List ℕ → Compared
compared_of chip a b =
    pick (not (is_known chip)) (Err Unsound)
    (pick (not (eqb (length a) (glass chip).size)) (Err Size)
    (pick (not (eqb (length b) (glass chip).size)) (Err Size) (first_dot (differ chip a b) differs_at (Ok None) (glass chip).cols 0 (glass chip).rows)))

-- all that a comparison says: the answer, and its number and place on paper
pub record Compares (chip : ℕ) (a b : List ℕ) (answer : Compared) : Type 0 where
  pub told : answer ≡ compared_of chip a b
  pub paper : compare_paper answer ≡ record { number = compare_number chip a b; place = place_for (compare_number chip a b) chip a b }

-- the first dot, by rows, at which the frames differ
pub record FirstDifference (chip : ℕ) (a b : List ℕ) (r x : ℕ) : Type 0 where
  pub row_in : r < (glass chip).rows
  pub column_in : x < (glass chip).cols
  pub differs : dot (glass chip) a r x ≡ dot (glass chip) b r x → ⊥
  pub none_before : (i y : ℕ) → y < (glass chip).cols → Before i y r x → dot (glass chip) a i y ≡ dot (glass chip) b i y

-- no dot differs
abbrev pub SameDots : ℕ → List ℕ → List ℕ → Type 0
SameDots chip a b = (r x : ℕ) → r < (glass chip).rows → x < (glass chip).cols → dot (glass chip) a r x ≡ dot (glass chip) b r x

-- what each answer to two frames of a known chip's size means
unfoldable pub Means : ℕ → List ℕ → List ℕ → Compared → Type 0
Means chip a b (Ok (Some d)) = FirstDifference chip a b d.row d.column
Means chip a b (Ok None) = SameDots chip a b
Means chip a b (Err refusal) = ⊥
