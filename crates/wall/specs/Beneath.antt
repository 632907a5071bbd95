-- The lines beneath the drawing, and the picture that they make with it (docs/WALL.md, "The print").
use Rattle.std.specs.Prelude.{ℕ, Bool, true, false, List, [], ◌∷◌, ◌++◌, Option, Some, None, ltb, get_or}
use Rattle.laws.specs.Pick.{pick}
use Rattle.text.specs.Hex.{hex_of}
use Rattle.chip.specs.Sizes.{lines_of, positions}
use Rattle.chip.specs.declared.sheet.Sheet.{Sheet}
use Rattle.mirror.specs.declared.panel.Panel.{Panel}
use Rattle.picture.specs.Cursor.{cursor_of}
use Rattle.picture.specs.Paint.{frame_after}
use Rattle.picture.specs.Picture.{codes_of}
use Rattle.picture.specs.declared.cursor.Spot.{Spot}
use Rattle.wall.specs.Draw.{drawing_bytes, drawn_panel, strung}
use Rattle.wall.specs.Svg.{decimal_bytes}
use Rattle.wall.specs.Text.{text_of}
use Rattle.wall.specs.Written.{written_line}

-- `text |`, a character for each code, and `|`
abbrev pub text_line : List ℕ → List ℕ
text_line codes = (116 ∷ 101 ∷ 120 ∷ 116 ∷ 32 ∷ 124 ∷ []) ++ (text_of codes ++ 124 ∷ 10 ∷ [])

-- a code: a space, and two upper-case hex digits
abbrev pub code_bytes : List ℕ → ℕ → List ℕ
code_bytes codes p = 32 ∷ hex_of (get_or codes p 0)

-- `codes`, and the sixteen from the left
abbrev pub codes_line : List ℕ → List ℕ
codes_line codes = (99 ∷ 111 ∷ 100 ∷ 101 ∷ 115 ∷ []) ++ (strung (code_bytes codes) positions ++ 10 ∷ [])

-- what a line of the screen shows, as text or as numbers
abbrev pub shown_line : Bool → List ℕ → List ℕ
shown_line text codes = pick text (text_line codes) (codes_line codes)

-- of each line, from the top
abbrev pub shown_lines : Bool → Sheet → ℕ → List ℕ
shown_lines text s n = strung (λ l. shown_line text (codes_of s l)) n

-- ` line ` and the cursor's line, where there is more than one
abbrev pub line_after : ℕ → ℕ → List ℕ
line_after lines l = pick (ltb 1 lines) ((32 ∷ 108 ∷ 105 ∷ 110 ∷ 101 ∷ 32 ∷ []) ++ decimal_bytes l) []

-- `cursor off`, or `cursor ` and its position
abbrev pub cursor_line : ℕ → Option Spot → List ℕ
cursor_line lines None = 99 ∷ 117 ∷ 114 ∷ 115 ∷ 111 ∷ 114 ∷ 32 ∷ 111 ∷ 102 ∷ 102 ∷ 10 ∷ []
cursor_line lines (Some spot) = (99 ∷ 117 ∷ 114 ∷ 115 ∷ 111 ∷ 114 ∷ 32 ∷ []) ++ (decimal_bytes spot.position ++ (line_after lines spot.line ++ 10 ∷ []))

-- a text for each line, codes for each line, the cursor and the written places
abbrev pub beneath_bytes : Panel → List ℕ
beneath_bytes p =
    let n = lines_of p.sheet.registers.chip in
    shown_lines true p.sheet n ++ (shown_lines false p.sheet n ++ (cursor_line n (cursor_of p.sheet.registers) ++ written_line p))

-- the drawing of what was painted into a frame, and the lines beneath it
abbrev pub picture_bytes : Bool → Bool → Bool → Bool → List ℕ → Panel → List ℕ → List ℕ
picture_bytes apart pairs upright dark font p frame =
    drawing_bytes apart p.sheet.registers.chip pairs (frame_after (drawn_panel upright p) font dark frame) ++ beneath_bytes p
