-- What each step does to the sheet (document 01, "Steps"), whether a read right after it is good, and which places are then written
-- (document 02, wishes 2 and 3).
use Rattle.std.specs.Prelude.{ℕ, ◌%◌, Bool, true, false, List, replicate}
use Rattle.laws.specs.Pick.{pick}
use Rattle.laws.specs.Ring.{moved}
use Rattle.laws.specs.Bit.{with_bit}
use Rattle.chip.specs.Sizes.{positions, places_of, display_size, space}
use Rattle.chip.specs.Address.{display, moved_address, in_display, written_display, written_pattern}
use Rattle.chip.specs.Sheet.{on_registers, with_display, with_pattern, with_address, with_shift, with_entry, with_screen, with_function, with_good, with_written}
use Rattle.chip.specs.Written.{is_written}
use Rattle.chip.specs.Instruction.{decoded}
use Rattle.chip.specs.declared.address.DisplayAddress.{DisplayAddress}
use Rattle.chip.specs.declared.address.Address.{Address}
use Rattle.chip.specs.declared.address.Address.TheVariants.{Display, Pattern}
use Rattle.chip.specs.declared.instruction.Instruction.{Instruction}
use Rattle.chip.specs.declared.instruction.Instruction.TheVariants.{Nothing, Clear, Home, Entry, Screen, Move, Shift, Function, Set}
use Rattle.chip.specs.declared.sheet.Sheet.{Sheet}

-- Home: display address 0, shift 0
abbrev pub homed : Sheet → Sheet
homed s = on_registers (λ r. with_address (Display (display 0)) (with_shift 0 r)) s

-- Clear: 20h everywhere in display memory, so no place is written, display address 0, shift 0, I/D = 1; S stays
abbrev pub cleared : Sheet → Sheet
cleared s = with_display (replicate display_size space) (on_registers (λ r. with_written 0 (with_entry true s.registers.follow r)) (homed s))

-- the entry bits I/D and S
abbrev pub entered : Bool → Bool → Sheet → Sheet
entered up follow s = on_registers (with_entry up follow) s

-- the display bits D, C and B
abbrev pub screen_set : Bool → Bool → Bool → Sheet → Sheet
screen_set on cursor blink s = on_registers (with_screen on cursor blink) s

-- the address by one, within its memory
abbrev pub stepped : Bool → Sheet → Sheet
stepped up s = on_registers (with_address (moved_address s.registers.chip up s.registers.address)) s

-- the shift alone, one for both lines: left +1, right -1, mod 16
abbrev pub shifted : Bool → Sheet → Sheet
shifted left s = on_registers (with_shift (moved positions left s.registers.shift)) s

-- the width and the low four Function Set bits
abbrev pub function_set : Bool → ℕ → Sheet → Sheet
function_set eight bits s = on_registers (with_function eight bits) s

-- an address set
abbrev pub address_set : Address → Sheet → Sheet
address_set a s = on_registers (with_address a) s

-- whether the next read is good
abbrev pub next_good : Bool → Sheet → Sheet
next_good good s = on_registers (with_good good) s

-- an instruction carried out. The next read is good after an address set and after a cursor shift in display memory only; a display shift
-- changes nothing about it; every other instruction makes it not good
abbrev pub acted : Instruction → Sheet → Sheet
acted Nothing s = s
acted Clear s = next_good false (cleared s)
acted Home s = next_good false (homed s)
acted (Entry up follow) s = next_good false (entered up follow s)
acted (Screen on cursor blink) s = next_good false (screen_set on cursor blink s)
acted (Move up) s = next_good (in_display s.registers.address) (stepped up s)
acted (Shift left) s = shifted left s
acted (Function eight bits) s = next_good false (function_set eight bits s)
acted (Set a) s = next_good true (address_set a s)

-- a code carried out
abbrev pub obeyed : ℕ → Sheet → Sheet
obeyed code s = acted (decoded s.registers.chip code) s

-- the bit of a display address, as display memory then has it: set exactly when its byte isn't 20h; all other bits stay
abbrev pub marked_at : DisplayAddress → List ℕ → Sheet → Sheet
marked_at a memory s =
    let place = a.0 % places_of s.registers.chip in
    on_registers (with_written (with_bit display_size place (is_written memory place) s.registers.written)) s

-- a byte stored in display memory, with the bit of its address
abbrev pub stored_display : DisplayAddress → ℕ → Sheet → Sheet
stored_display a byte s = let memory = written_display s.registers.chip a byte s.display in marked_at a memory (with_display memory s)

-- a byte stored at the address, in the memory that it points into; a pattern sets no bit
abbrev pub stored_at : Address → ℕ → Sheet → Sheet
stored_at (Display a) byte s = stored_display a byte s
stored_at (Pattern a) byte s = with_pattern (written_pattern a byte s.pattern) s

-- the display shifts with the address where told: left if I/D = 1, right if 0
abbrev pub followed : Bool → Sheet → Sheet
followed shifts s = pick shifts (shifted s.registers.up s) s

-- whether a write shifts: with S = 1, in display memory alone
abbrev pub shifts_at : Address → Bool → Bool
shifts_at (Display a) follow = follow
shifts_at (Pattern a) follow = false

-- data write: stores at the address, then the address moves by I/D, and the next read is not good; then the shift
abbrev pub written_at : Address → ℕ → Sheet → Sheet
written_at a byte s = followed (shifts_at a s.registers.follow) (next_good false (stepped s.registers.up (stored_at a byte s)))

abbrev pub written : ℕ → Sheet → Sheet
written byte s = written_at s.registers.address byte s

-- data read, good or not: the address moves, and the next read is good; no shift
abbrev pub passed : Sheet → Sheet
passed s = followed false (next_good true (stepped s.registers.up s))
