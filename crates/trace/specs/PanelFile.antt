-- A panel file (docs/TRACE.md, "A panel file"): which bytes are one, and the panel that they hold.
use Rattle.std.specs.Prelude.{ℕ, ◌+◌, ◌*◌, ◌^◌, Bool, false, ◌&&◌, ◌||◌, List, length, ◌==◌, nat_lt, slice_index, Option, Some, None, Result, Ok, Err}
use Rattle.laws.specs.Pick.{pick}
use Rattle.dots.specs.Table.{table}
use Rattle.framing.specs.Frame.{num16, num64}
use Rattle.chip.specs.Sizes.{display_size, pattern_size}
use Rattle.chip.specs.Address.{display, pattern}
use Rattle.chip.specs.declared.address.Address.{Address}
use Rattle.chip.specs.declared.address.Address.TheVariants.{Display, Pattern}
use Rattle.chip.specs.declared.registers.Registers.{Registers}
use Rattle.mirror.specs.declared.half.Half.{Half}
use Rattle.mirror.specs.declared.half.Half.TheVariants.{Empty, Ignored, Waiting}
use Rattle.mirror.specs.declared.panel.Panel.{Panel}
use Rattle.trace.specs.declared.panel_file.Misfit.{Misfit}
use Rattle.trace.specs.declared.panel_file.Misfit.TheVariants.{Byte, Size}

-- byte i; a bool, which is 1 where it is true
abbrev pub byte_in : List ℕ → ℕ → ℕ
byte_in b i = slice_index b i

abbrev pub bool_in : List ℕ → ℕ → Bool
bool_in b i = byte_in b i == 1

-- the little-endian number of four bytes at a place
abbrev pub num32 : List ℕ → ℕ → ℕ
num32 b at = num16 b at + 2 ^ 16 * num16 b (at + 2)

-- 1 to 32, display memory; 33 to 64, pattern memory
abbrev pub display_in : List ℕ → List ℕ
display_in b = table (λ i. byte_in b (1 + i)) display_size

abbrev pub pattern_in : List ℕ → List ℕ
pattern_in b = table (λ i. byte_in b (1 + display_size + i)) pattern_size

-- 65, the memory that the counter points into: 0 display, 1 pattern; 66, the address
abbrev pub address_in : ℕ → ℕ → Address
address_in memory number = pick (memory == 0) (Display (display number)) (Pattern (pattern number))

-- 0, the chip's number; 67, shift; 68 to 72, I/D, S, D, C, B; 73, width, 8 or 4; 74, Function Set bits; 101, good; 102 to 105, the bits of the written places
abbrev pub registers_in : List ℕ → Registers
registers_in b = record {
  chip = byte_in b 0;
  address = address_in (byte_in b 65) (byte_in b 66);
  shift = byte_in b 67;
  up = bool_in b 68;
  follow = bool_in b 69;
  on = bool_in b 70;
  cursor = bool_in b 71;
  blink = bool_in b 72;
  eight = (byte_in b 73 == 8);
  function = byte_in b 74;
  good = bool_in b 101;
  written = num32 b 102;
}

-- 97, half: 0 none, 1 ignored, 2 waiting; 98, 99, 100, its RS, R/W and nibble
abbrev pub half_in : ℕ → Bool → Bool → ℕ → Half
half_in kind rs reads nibble = pick (kind == 1) (Ignored rs reads) (pick (kind == 2) (Waiting rs reads nibble) Empty)

-- 75 to 80, three times of two bytes: reset, long, short; 81 to 88, busy end; 89 to 96, last time
abbrev pub file_panel : List ℕ → Panel
file_panel b = record {
  sheet = record { registers = registers_in b; display = display_in b; pattern = pattern_in b };
  busy = num64 b 81;
  half = half_in (byte_in b 97) (bool_in b 98) (bool_in b 99) (byte_in b 100);
  times = record { reset = num16 b 75; long = num16 b 77; short = num16 b 79 };
  last = num64 b 89;
}

-- what the types can hold: a bool is at most 1, the width 8 or 4
abbrev pub is_bool : List ℕ → ℕ → Bool
is_bool b i = nat_lt (byte_in b i) 2

abbrev pub bits_fit : List ℕ → Bool
bits_fit b =
    (byte_in b 73 == 8 || byte_in b 73 == 4) && is_bool b 65 && is_bool b 68 && is_bool b 69 && is_bool b 70 && is_bool b 71 && is_bool b 72 && is_bool b 101

-- RS, R/W and nibble 0 where none waits, the nibble 0 where it is ignored
abbrev pub half_holds : ℕ → ℕ → ℕ → ℕ → Bool
half_holds kind rs reads nibble =
    pick (kind == 0) (rs == 0 && reads == 0 && nibble == 0)
    (pick (kind == 1) (nat_lt rs 2 && nat_lt reads 2 && nibble == 0) (pick (kind == 2) (nat_lt rs 2 && nat_lt reads 2) false))

abbrev pub fits_in : List ℕ → Bool
fits_in b = bits_fit b && half_holds (byte_in b 97) (byte_in b 98) (byte_in b 99) (byte_in b 100)

-- a byte that is a bool, and the width's: whether it is 8
abbrev pub bool_of : ℕ → Option Bool
bool_of byte = pick (nat_lt byte 2) (Some (byte == 1)) None

abbrev pub width_of : ℕ → Option Bool
width_of byte = pick (byte == 8 || byte == 4) (Some (byte == 8)) None

abbrev pub panel_size : ℕ
panel_size = 106

-- the panel that a file holds, or why it holds none
abbrev pub panel_told : List ℕ → Result Panel Misfit
panel_told b = pick (length b == panel_size) (pick (fits_in b) (Ok (file_panel b)) (Err Byte)) (Err Size)
