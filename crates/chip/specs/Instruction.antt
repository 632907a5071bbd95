-- The instruction table (document 01, "Steps"): what a code asks for.
use Rattle.std.specs.Prelude.{ℕ, ◌%◌, ◌/◌, Bool, ltb, eqb}
use Rattle.laws.specs.Pick.{pick}
use Rattle.chip.specs.Sizes.{places_of, pattern_size, function_end}
use Rattle.chip.specs.Address.{display, pattern}
use Rattle.chip.specs.declared.address.Address.TheVariants.{Display, Pattern}
use Rattle.chip.specs.declared.instruction.Instruction.{Instruction}
use Rattle.chip.specs.declared.instruction.Instruction.TheVariants.{Nothing, Clear, Home, Entry, Screen, Move, Shift, Function, Set}

-- the bit of a weight in a code
abbrev pub is_set : ℕ → ℕ → Bool
is_set weight code = eqb (code / weight % 2) 1

-- it is 0
abbrev pub unset : ℕ → ℕ → Bool
unset weight code = eqb (code / weight % 2) 0

-- 01h; 02h, 03h; 04h to 07h: I/D is bit 1, S is bit 0; 08h to 0Fh: D, C, B are bits 2, 1, 0;
-- 10h to 1Fh: S/C is bit 3, R/L is bit 2, and a shift goes left where it is 0; 20h to 3Fh: bit 4 gives the width, bits 3 to 0 are kept;
-- 40h to 7Fh: pattern address, low five bits; 80h to FFh: display address, low four bits, and on two lines five
abbrev pub decoded : ℕ → ℕ → Instruction
decoded chip code =
    pick (ltb code 0x01) Nothing
    (pick (ltb code 0x02) Clear
    (pick (ltb code 0x04) Home
    (pick (ltb code 0x08) (Entry (is_set 2 code) (is_set 1 code))
    (pick (ltb code 0x10) (Screen (is_set 4 code) (is_set 2 code) (is_set 1 code))
    (pick (ltb code 0x18) (Move (is_set 4 code))
    (pick (ltb code 0x20) (Shift (unset 4 code))
    (pick (ltb code 0x40) (Function (is_set 0x10 code) (code % function_end))
    (pick (ltb code 0x80) (Set (Pattern (pattern (code % pattern_size))))
    (Set (Display (display (code % places_of chip))))))))))))
