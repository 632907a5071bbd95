-- The order in which a painter goes: line by line, cell by cell, within a cell by columns. A line has `across` cells, a cell
-- `tall` rows of `wide` dots; the values are handed in by line, cell, row of the cell and column of the cell.
use Rattle.std.specs.Prelude.{ℕ, zero, suc, ◌+◌, ◌*◌, ◌^◌, List, get_or, set}
use Rattle.dots.specs.Landing.{Landing}
use Rattle.std.specs.Int.Bits.{bit_or}

-- step 0, then step 1, .., then step (n - 1)
unfoldable pub in_order : {A : Type 0} → (ℕ → A → A) → ℕ → A → A
in_order step zero a = a
in_order step (suc n) a = step n (in_order step n a)

-- the frame with v or-ed into the dot (r, x)
abbrev pub put : Landing → List ℕ → ℕ → ℕ → ℕ → List ℕ
put L f r x v = set f (L.byte_at r x) (bit_or (get_or f (L.byte_at r x) 0) (v * 2 ^ L.bit_at r x))

-- one column of a cell, from the dot (r, x) down
abbrev pub strip : Landing → (tall : ℕ) → (ℕ → ℕ) → ℕ → ℕ → List ℕ → List ℕ
strip L tall v r x = in_order (λ i f. put L f (r + i) x (v i)) tall

-- one cell, whose upper left dot is (r, x)
abbrev pub block : Landing → (tall wide : ℕ) → (ℕ → ℕ → ℕ) → ℕ → ℕ → List ℕ → List ℕ
block L tall wide v r x = in_order (λ c. strip L tall (λ i. v i c) r (x + c)) wide

-- the cells of the line whose first row is r
abbrev pub line : Landing → (tall wide across : ℕ) → (ℕ → ℕ → ℕ → ℕ) → ℕ → List ℕ → List ℕ
line L tall wide across v r = in_order (λ p. block L tall wide (v p) r (p * wide)) across

-- all lines
abbrev pub page : Landing → (tall wide across lines : ℕ) → (ℕ → ℕ → ℕ → ℕ → ℕ) → List ℕ → List ℕ
page L tall wide across lines v = in_order (λ l. line L tall wide across (v l) (l * tall)) lines
