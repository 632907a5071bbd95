-- The drawing and the bitmap, made of the dots of a chip's frame (docs/WALL.md, "The mode", "The print", "Cells apart").
use Rattle.std.specs.Prelude.{ℕ, zero, suc, ◌+◌, ◌-◌, ◌*◌, ◌/◌, Bool, true, false, ◌&&◌, List, [], ◌∷◌, ◌++◌}
use Rattle.laws.specs.Pick.{pick}
use Rattle.laws.specs.Bit.{one}
use Rattle.dots.specs.Table.{table}
use Rattle.mirror.specs.declared.panel.Panel.{Panel}
use Rattle.picture.specs.Mode.{upright_of}
use Rattle.picture.specs.Frame.{bytes_across, lit_at}
use Rattle.wall.specs.declared.glass.Form.{Form}
use Rattle.wall.specs.declared.glass.Form.TheVariants.{Blocks, Marks, Bitmap, Svg}
use Rattle.wall.specs.Apart.{blank_at, columns_drawn, lit_drawn, rows_drawn}

-- the panel that is drawn: with `upright` as it would be in mode A, and without it as it is (docs/WALL.md, "The mode")
abbrev pub drawn_panel : Bool → Panel → Panel
drawn_panel upright p = pick upright (upright_of p) p

-- eight dots from column x on as one byte, the leftmost in the highest bit
abbrev pub eight_of : ℕ → List ℕ → ℕ → ℕ → ℕ
eight_of chip f r x =
    128 * one (lit_at chip f r x) + 64 * one (lit_at chip f r (x + 1)) + 32 * one (lit_at chip f r (x + 2)) + 16 * one (lit_at chip f r (x + 3))
    + 8 * one (lit_at chip f r (x + 4)) + 4 * one (lit_at chip f r (x + 5)) + 2 * one (lit_at chip f r (x + 6)) + one (lit_at chip f r (x + 7))

-- a row of the bitmap: a byte for each eight columns
abbrev pub bitmap_row : ℕ → List ℕ → ℕ → List ℕ
bitmap_row chip f r = table (λ i. eight_of chip f r (8 * i)) bytes_across

-- a dot: # where it is lit, and a point where it is not; a space where it is blank
abbrev pub mark_of : Bool → Bool → ℕ
mark_of blank lit = pick blank 32 (pick lit 35 46)

-- two dots, one above the other: a full block of the terminal, its upper half, its lower half, or a space
abbrev pub pair_of : Bool → Bool → List ℕ
pair_of upper lower =
    pick (upper && lower) (0xE2 ∷ 0x96 ∷ 0x88 ∷ [])
    (pick upper (0xE2 ∷ 0x96 ∷ 0x80 ∷ []) (pick lower (0xE2 ∷ 0x96 ∷ 0x84 ∷ []) (32 ∷ [])))

-- h 0, then h 1, .., then h (n - 1)
unfoldable pub strung : (ℕ → List ℕ) → ℕ → List ℕ
strung h zero = []
strung h (suc n) = strung h n ++ h n

-- what is drawn is drawn by pairs of dots, but for what is drawn by marks
abbrev pub by_pairs : Form → Bool
by_pairs Blocks = true
by_pairs Marks = false
by_pairs Bitmap = true
by_pairs Svg = true

-- a line between two bars
abbrev pub barred : List ℕ → List ℕ
barred s = (124 ∷ s) ++ (124 ∷ 10 ∷ [])

-- a line shows a row, or two
abbrev pub rows_shown : Bool → ℕ
rows_shown pairs = pick pairs 2 1

-- what a line shows of column x: a mark for the dot of row r, or a block for it and the one below it
abbrev pub column_bytes : Bool → ℕ → Bool → List ℕ → ℕ → ℕ → List ℕ
column_bytes apart chip pairs f r x =
    pick pairs (pair_of (lit_drawn apart chip f r x) (lit_drawn apart chip f (r + 1) x)) (mark_of (blank_at apart r x) (lit_drawn apart chip f r x) ∷ [])

-- a line: the columns from the left
abbrev pub line_bytes : Bool → ℕ → Bool → List ℕ → ℕ → List ℕ
line_bytes apart chip pairs f r = barred (strung (column_bytes apart chip pairs f r) (columns_drawn apart))

-- how many lines there are; the last one may show a row above nothing
abbrev pub lines_drawn : Bool → ℕ → Bool → ℕ
lines_drawn apart chip pairs = (rows_drawn apart chip + (rows_shown pairs - 1)) / rows_shown pairs

-- the lines from the top
abbrev pub lines_bytes : Bool → ℕ → Bool → List ℕ → List ℕ
lines_bytes apart chip pairs f = strung (λ i. line_bytes apart chip pairs f (i * rows_shown pairs)) (lines_drawn apart chip pairs)

-- the line above and beneath them: a hyphen for each column
abbrev pub edge_bytes : Bool → List ℕ
edge_bytes apart = (43 ∷ strung (λ x. 45 ∷ []) (columns_drawn apart)) ++ (43 ∷ 10 ∷ [])

-- the drawing
abbrev pub drawing_bytes : Bool → ℕ → Bool → List ℕ → List ℕ
drawing_bytes apart chip pairs f = (edge_bytes apart ++ lines_bytes apart chip pairs f) ++ edge_bytes apart
