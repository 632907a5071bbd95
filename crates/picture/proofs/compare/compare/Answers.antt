use Rattle.std.proofs.Common.{ℕ, zero, suc, List, Bool, eqb, refl, Option, None, Ok, ◌≡◌, ◌+◌, ◌<◌, ◌≤◌, true, false, not, sym, ap, ap₂, ◌∙◌, arith}
use mathlib.Core.Bool.{beq}
use Rattle.laws.specs.laws.BitLaws.{bit_lt}
use Rattle.dots.specs.Landing.{dot}
use Rattle.dots.specs.laws.FirstLaws.{first_here, first_next, first_end, rows_next, rows_end}
use Rattle.picture.specs.Frame.{glass}
use Rattle.picture.specs.Compare.{Compared, differ, differs_at, compared_of}
use Rattle.picture.specs.declared.frame.Dot.{Dot}
use Rattle.picture.proofs.laws.CompareLaws.{compares}
use Rattle.picture.proofs.compare.compare.Invariants.{Seeking, from_row, from_dot}
use Rattle.picture.proofs.compare.compare.Goals as goal

on : {chip : ℕ} {a b : List ℕ} {found : Option Dot} {left next : Compared} → Seeking chip a b found left → compared_of chip a b ≡ next → Seeking chip a b found next
on S e = record { nothing = S.nothing; rest = e }

-- a dot of a frame of the chip's size is a dot of the frame
seen : {chip of : ℕ} {a frame : List ℕ} {lit : Bool} (row column : ℕ) → of ≡ chip → frame ≡ a → lit ≡ eqb (dot (glass of) frame row column) 1
    → lit ≡ eqb (dot (glass chip) a row column) 1
seen row column p q e = e ∙ ap₂ (λ (k : ℕ) (l : List ℕ). eqb (dot (glass k) l row column) 1) p q

-- two dots differ where one of them is lit
beside_lit : (m n : ℕ) → m < 2 → n < 2 → beq (eqb m 1) (eqb n 1) ≡ eqb m n
beside_lit zero zero p q = refl
beside_lit zero (suc zero) p q = refl
beside_lit (suc zero) zero p q = refl
beside_lit (suc zero) (suc zero) p q = refl
beside_lit m (suc (suc n)) p q = absurd (omega arith)
beside_lit (suc (suc m)) n p q = absurd (omega arith)

differs : (chip : ℕ) (a b : List ℕ) (row column : ℕ) (x y : Bool) → x ≡ eqb (dot (glass chip) a row column) 1 → y ≡ eqb (dot (glass chip) b row column) 1
    → not (beq x y) ≡ differ chip a b row column
differs chip a b row column x y p q =
    ap₂ (λ (u v : Bool). not (beq u v)) p q ∙ ap not (beside_lit (dot (glass chip) a row column) (dot (glass chip) b row column) (bit_lt _ _) (bit_lt _ _))

-- the first dot of a row, the next dot, the next row
module _ {chip : ℕ} {a b : List ℕ} {found : Option Dot} where
  into : (row : ℕ) → Seeking chip a b found (from_row chip a b row) → row < (glass chip).rows → Seeking chip a b found (from_dot chip a b row 0)
  into row S h = on S (S.rest ∙ rows_next (differ chip a b) differs_at (Ok None) (glass chip).cols row (glass chip).rows h)

  beside : (row column : ℕ) → Seeking chip a b found (from_dot chip a b row column) → column < (glass chip).cols → differ chip a b row column ≡ false
      → Seeking chip a b found (from_dot chip a b row (column + 1))
  beside row column S h e = on S (S.rest ∙ first_next (differ chip a b row) (differs_at row) (from_row chip a b (row + 1)) column (glass chip).cols h e)

  beneath : (row column : ℕ) → Seeking chip a b found (from_dot chip a b row column) → (glass chip).cols ≤ column
      → Seeking chip a b found (from_row chip a b (row + 1))
  beneath row column S h = on S (S.rest ∙ first_end (differ chip a b row) (differs_at row) (from_row chip a b (row + 1)) column (glass chip).cols h)

  -- and the two ends
  nowhere : (row : ℕ) → Seeking chip a b found (from_row chip a b row) → (glass chip).rows ≤ row → Ok found ≡ compared_of chip a b
  nowhere row S h = ap Ok S.nothing ∙ sym (S.rest ∙ rows_end (differ chip a b) differs_at (Ok None) (glass chip).cols row (glass chip).rows h)

  there : (row column : ℕ) → Seeking chip a b found (from_dot chip a b row column) → column < (glass chip).cols → differ chip a b row column ≡ true
      → differs_at row column ≡ compared_of chip a b
  there row column S h e = sym (S.rest ∙ first_here (differ chip a b row) (differs_at row) (from_row chip a b (row + 1)) column (glass chip).cols h e)

pub loop-column-init : goal.loop-column-init
loop-column-init c =
    let S = c.rows.invariant.0 in
    (into c.rows.row S (omega arith), omega arith, omega arith)

pub loop-column-preserved : goal.loop-column-preserved
loop-column-preserved c =
    let S = c.loop-column.invariant.0 in
    let one = seen c.rows.row c.loop-column.column c.in_ok-one.ensures.0 c.in_ok-one.ensures.1 c.lit.ensures in
    let other = seen c.rows.row c.loop-column.column c.in_ok-other.ensures.0 c.in_ok-other.ensures.1 c.lit-in-loop-column.ensures in
    (beside _ c.loop-column.column S (omega arith) (sym (differs c.args.chip c.args.a.now c.args.b.now c.rows.row c.loop-column.column _ _ one other) ∙ c.if-lit.false), c.loop-column.invariant.1, omega arith)

pub rows-preserved : goal.rows-preserved
rows-preserved c =
    let S = c.loop-column.invariant.0 in
    (beneath _ c.loop-column.column S (omega arith), omega arith)

pub returns-after-rows : goal.returns-after-rows
returns-after-rows c =
    compares _ _ _ _ (nowhere c.rows.row c.rows.invariant.0 (omega arith))

pub returns-then-lit : goal.returns-then-lit
returns-then-lit c =
    let one = seen c.rows.row c.loop-column.column c.in_ok-one.ensures.0 c.in_ok-one.ensures.1 c.lit.ensures in
    let other = seen c.rows.row c.loop-column.column c.in_ok-other.ensures.0 c.in_ok-other.ensures.1 c.lit-in-loop-column.ensures in
    compares _ _ _ _ (there _ c.loop-column.column c.loop-column.invariant.0 (omega arith) (sym (differs c.args.chip c.args.a.now c.args.b.now c.rows.row c.loop-column.column _ _ one other) ∙ c.if-lit.true))
