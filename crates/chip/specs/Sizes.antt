-- The sizes (document 01, "The panel"; of two lines, document 02, wish 1). Each has one name, and nothing else says its number.
use Rattle.std.specs.Prelude.{ℕ, ◌*◌, ◌<◌, ◌≤◌, ◌≡◌, Bool, true, eqb}
use Rattle.laws.specs.Pick.{pick}

-- the panel says which chip it is: 31 is the NJU6631A, 35 the NJU6635
abbrev pub one_line : ℕ
one_line = 31

abbrev pub two_lines : ℕ
two_lines = 35

-- any other is unknown
abbrev pub is_known : ℕ → Bool
is_known chip = pick (eqb chip one_line) true (eqb chip two_lines)

-- the NJU6635 has two lines, the NJU6631A one; without a panel an unknown chip counts as one line
abbrev pub lines_of : ℕ → ℕ
lines_of chip = pick (eqb chip two_lines) 2 1

abbrev pub most_lines : ℕ
most_lines = 2

-- sixteen positions to a line; the shift goes round as many
abbrev pub positions : ℕ
positions = 16

-- the places of display memory that a chip has: one for each position of each line
abbrev pub places_of : ℕ → ℕ
places_of chip = lines_of chip * positions

-- display memory has a byte for each place of the chip that has the most
abbrev pub display_size : ℕ
display_size = most_lines * positions

-- what `places` answers, with the bounds that its callers need
pub record Places (chip r : ℕ) : Type 0 where
  pub is : r ≡ places_of chip
  pub some : 0 < r
  pub fits : r ≤ display_size

-- pattern memory: 32 entries
abbrev pub pattern_size : ℕ
pattern_size = 32

-- an entry is a row of five dots, a number below 32
abbrev pub row_end : ℕ
row_end = 32

-- four Function Set bits are kept, a number below 16
abbrev pub function_end : ℕ
function_end = 16

-- display memory holds 20h where nothing is written
abbrev pub space : ℕ
space = 0x20
