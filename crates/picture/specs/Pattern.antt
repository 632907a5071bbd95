-- The patterns (document 01, "The panel", "The picture"): eight rows of five dots, read as one thing.
use Rattle.std.specs.Prelude.{ℕ, ◌+◌, ◌-◌, ◌*◌, ◌%◌, List, ltb, get_or}
use Rattle.laws.specs.Pick.{pick}
use Rattle.dots.specs.Table.{table}
use Rattle.chip.specs.Sizes.{row_end}
use Rattle.chip.specs.Address.{pattern, read_pattern}

-- eight rows, five dots wide
abbrev pub tall : ℕ
tall = 8

abbrev pub wide : ℕ
wide = 5

-- four patterns
abbrev pub patterns : ℕ
patterns = 4

-- the codes 00h to 0Fh are pattern memory's
abbrev pub font_start : ℕ
font_start = 16

-- a font has 1,920 bytes
abbrev pub font_size : ℕ
font_size = 1920

-- row r of pattern n, by the low two bits of n
abbrev pub pattern_row : List ℕ → ℕ → ℕ → ℕ
pattern_row memory n r = read_pattern (pattern (tall * (n % patterns) + r)) memory

-- font byte 8 (code - 16) + r, low five bits
abbrev pub glyph_row : List ℕ → ℕ → ℕ → ℕ
glyph_row font code r = get_or font (tall * (code - font_start) + r) 0 % row_end

-- the rows as one thing
abbrev pub pattern_of : List ℕ → ℕ → List ℕ
pattern_of memory n = table (pattern_row memory n) tall

abbrev pub glyph_of : List ℕ → ℕ → List ℕ
glyph_of font code = table (glyph_row font code) tall

-- the four patterns of a panel
abbrev pub patterns_of : List ℕ → List (List ℕ)
patterns_of memory = table (pattern_of memory) patterns

-- codes 00h to 0Fh show the pattern of their low two bits, other codes the font
abbrev pub shape_of : List ℕ → List ℕ → ℕ → List ℕ
shape_of memory font code = pick (ltb code font_start) (pattern_of memory code) (glyph_of font code)
