-- Which dots are lit (document 01, "The picture"; of two lines, document 02, wish 1).
use Rattle.std.specs.Prelude.{ℕ, ◌+◌, ◌-◌, ◌*◌, ◌/◌, ◌%◌, Bool, ◌&&◌, ◌||◌, List, eqb, get_or}
use Rattle.laws.specs.Bit.{bit}
use Rattle.dots.specs.Table.{table}
use Rattle.chip.specs.Sizes.{positions}
use Rattle.chip.specs.Address.{display, read_display}
use Rattle.chip.specs.declared.sheet.Sheet.{Sheet}
use Rattle.picture.specs.Pattern.{tall, wide, shape_of}
use Rattle.picture.specs.Cursor.{cursor_here}

-- position p of line l shows display address 16 l + (p + shift) mod 16: each line shifts within itself
abbrev pub code_at : Sheet → ℕ → ℕ → ℕ
code_at s l p = read_display s.registers.chip (display (l * positions + (p + s.registers.shift) % positions)) s.display

-- the codes of a line's sixteen positions, from the left
abbrev pub codes_of : Sheet → ℕ → List ℕ
codes_of s l = table (code_at s l) positions

-- the pattern that position p of line l shows
abbrev pub shape_at : Sheet → List ℕ → ℕ → ℕ → List ℕ
shape_at s font l p = shape_of s.pattern font (code_at s l p)

-- dot (r, x) of a pattern is 1: r div 8 is the line, r mod 8 the pattern's row, x div 5 the position, and x mod 5 = 0 is data bit 4
abbrev pub pattern_dot : Sheet → List ℕ → ℕ → ℕ → Bool
pattern_dot s font r x = eqb (bit (get_or (shape_at s font (r / tall) (x / wide)) (r % tall) 0) (wide - 1 - x % wide)) 1

-- row r and column x stand at the cursor's line and position
abbrev pub at_cursor : Sheet → ℕ → ℕ → Bool
at_cursor s r x = cursor_here s.registers (r / tall) (x / wide)

-- row 7 of a line
abbrev pub cursor_row : ℕ
cursor_row = 7

-- C = 1 at the cursor's line and position in row 7 of the line
abbrev pub cursor_dot : Sheet → ℕ → ℕ → Bool
cursor_dot s r x = s.registers.cursor && at_cursor s r x && eqb (r % tall) cursor_row

-- B = 1 at that line and position, in any row of the line, while the caller says the blink is dark
abbrev pub blink_dot : Sheet → Bool → ℕ → ℕ → Bool
blink_dot s dark r x = s.registers.blink && dark && at_cursor s r x

-- with D = 0 no dot is lit; otherwise a dot is lit exactly when its pattern bit is 1, or the cursor's, or the blink's
unfoldable pub lit : Sheet → List ℕ → Bool → ℕ → ℕ → Bool
lit s font dark r x = s.registers.on && (pattern_dot s font r x || cursor_dot s r x || blink_dot s dark r x)
