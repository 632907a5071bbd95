-- The eight rows that the painter shows at a position of a line. That their dots are the lit ones is the law `shown_lit`.
use Rattle.std.specs.Prelude.{ℕ, ◌+◌, ◌-◌, ◌*◌, ◌<◌, ◌≡◌, Bool, not, ◌&&◌, List, get_or, replicate, set}
use Rattle.laws.specs.Pick.{pick}
use Rattle.laws.specs.Bit.{bit}
use Rattle.dots.specs.Landing.{Landing}
use Rattle.dots.specs.engine.Cells.{strip, block, line, page}
use Rattle.chip.specs.Sizes.{lines_of, positions, row_end}
use Rattle.chip.specs.declared.sheet.Sheet.{Sheet}
use Rattle.picture.specs.Pattern.{tall, wide}
use Rattle.picture.specs.Cursor.{cursor_here}
use Rattle.picture.specs.Frame.{glass}
use Rattle.picture.specs.engine.Wiring.{wired}
use Rattle.picture.specs.declared.mode.Wiring.{Wiring}
use Rattle.picture.specs.Picture.{shape_at, cursor_row}
use Rattle.picture.specs.declared.frame.Dot.{Dot}
use Rattle.picture.specs.declared.frame.Place.{Place}

-- five dots that are all lit
abbrev pub full : ℕ
full = row_end - 1

unfoldable pub shown_of : Sheet → List ℕ → Bool → ℕ → ℕ → List ℕ
shown_of s font dark l p =
    pick (not s.registers.on) (replicate tall 0)
    (pick (not (cursor_here s.registers l p)) (shape_at s font l p)
    (pick (s.registers.blink && dark) (replicate tall full)
    (pick s.registers.cursor (set (shape_at s font l p) cursor_row full) (shape_at s font l p))))

-- dot c of a row of five, the leftmost being the highest bit
abbrev pub row_dot : ℕ → ℕ → ℕ
row_dot row c = bit row (wide - 1 - c)

-- the dots of a cell by row and column
abbrev pub cell_dot : List ℕ → ℕ → ℕ → ℕ
cell_dot rows i = row_dot (get_or rows i 0)

-- the dots of the screen by line, position, row and column
abbrev pub page_dot : Sheet → List ℕ → Bool → ℕ → ℕ → ℕ → ℕ → ℕ
page_dot s font dark l p = cell_dot (shown_of s font dark l p)

-- the frame with column c of a cell put, with a cell put, its upper left dot being (r, x), with line l put, with all lines put
abbrev pub column_put : Landing → List ℕ → ℕ → ℕ → ℕ → List ℕ → List ℕ
column_put L rows r x c = strip L tall (λ i. cell_dot rows i c) r (x + c)

abbrev pub cell_put : Landing → List ℕ → ℕ → ℕ → List ℕ → List ℕ
cell_put L rows = block L tall wide (cell_dot rows)

abbrev pub line_put : Wiring → Sheet → List ℕ → Bool → ℕ → List ℕ → List ℕ
line_put w s font dark l = line (wired w) tall wide positions (page_dot s font dark l) (l * tall)

abbrev pub page_put : Wiring → Sheet → List ℕ → Bool → List ℕ → List ℕ
page_put w s font dark = page (wired w) tall wide positions (lines_of w.chip) (page_dot s font dark)

-- the dot is one of the landing's
abbrev pub Inside : Landing → Dot → Type 0
Inside L at = (at.row < L.rows) × (at.column < L.cols)

-- the place is where dot (r, x) of a chip's frame lands, which is inside the frame
pub record Lands (chip r x : ℕ) (place : Place) : Type 0 where
  pub byte_is : place.byte ≡ (glass chip).byte_at r x
  pub bit_is : place.bit ≡ (glass chip).bit_at r x
  pub in_frame : place.byte < (glass chip).size
  pub in_byte : place.bit < 8
