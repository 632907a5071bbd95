-- Where the cursor stands, and whether it is shown (document 01, "The picture"; of two lines, document 02, wish 1).
use Rattle.std.specs.Prelude.{ℕ, ◌+◌, ◌-◌, ◌/◌, ◌%◌, Bool, ◌&&◌, ◌||◌, eqb, Option, Some, None}
use Rattle.laws.specs.Pick.{pick}
use Rattle.chip.specs.Sizes.{lines_of, positions}
use Rattle.chip.specs.Address.{address_number}
use Rattle.chip.specs.declared.address.Address.{Address}
use Rattle.chip.specs.declared.registers.Registers.{Registers}
use Rattle.picture.specs.declared.cursor.Spot.{Spot}

-- line address div 16, also while the address is in pattern memory: taken as it is on two lines, mod 16 on one
abbrev pub line_of : ℕ → Address → ℕ
line_of chip address = address_number chip address / positions % lines_of chip

-- position (address - shift) mod 16, also while the address is in pattern memory
abbrev pub position_of : ℕ → Address → ℕ → ℕ
position_of chip address shift = (address_number chip address + (positions - shift % positions)) % positions

-- position p of line l is the cursor's
abbrev pub cursor_here : Registers → ℕ → ℕ → Bool
cursor_here g l p = eqb l (line_of g.chip g.address) && eqb p (position_of g.chip g.address g.shift)

-- the place of the cursor, shown or not
abbrev pub spot_of : Registers → Spot
spot_of g = record { line = line_of g.chip g.address; position = position_of g.chip g.address g.shift }

-- D = 1, and C = 1 or B = 1: on its line at its position; otherwise none is shown
abbrev pub cursor_of : Registers → Option Spot
cursor_of g = pick (g.on && (g.cursor || g.blink)) (Some (spot_of g)) None
