-- The sheet: registers and the two memories (document 01, "The panel").
use Rattle.std.specs.Prelude.{ℕ, ◌≡◌, Bool, true, false, List, replicate}
use Rattle.chip.specs.Sizes.{display_size, pattern_size, space}
use Rattle.chip.specs.Address.{display, read_display, read_pattern}
use Rattle.chip.specs.declared.address.Address.{Address}
use Rattle.chip.specs.declared.address.Address.TheVariants.{Display, Pattern}
use Rattle.chip.specs.declared.registers.Registers.{Registers}
use Rattle.chip.specs.declared.sheet.Sheet.{Sheet}

-- registers and memories put together
abbrev pub sheet_of : Registers → List ℕ → List ℕ → Sheet
sheet_of r d p = record { registers = r; display = d; pattern = p }

-- fresh, of a chip: display memory all 20h, pattern memory all 0, address 0 in display memory, shift 0, I/D = 1, S = D = C = B = 0, width 8, Function Set bits 0;
-- the next read is not good (document 02, wish 2), and no place is written (wish 3)
abbrev pub fresh_registers : ℕ → Registers
fresh_registers chip =
    record {
      chip = chip;
      address = Display (display 0);
      shift = 0;
      up = true;
      follow = false;
      on = false;
      cursor = false;
      blink = false;
      eight = true;
      function = 0;
      good = false;
      written = 0;
    }

abbrev pub fresh_sheet : ℕ → Sheet
fresh_sheet chip = sheet_of (fresh_registers chip) (replicate display_size space) (replicate pattern_size 0)

-- the byte at the address, in the memory that it points into
abbrev pub read_at : ℕ → Address → List ℕ → List ℕ → ℕ
read_at chip (Display a) d p = read_display chip a d
read_at chip (Pattern a) d p = read_pattern a p

abbrev pub read_here : Registers → List ℕ → List ℕ → ℕ
read_here r d p = read_at r.chip r.address d p

-- registers r with the memories at exit are the sheet s
abbrev pub Starts : Sheet → Registers → List ℕ → List ℕ → Type 0
Starts s r d p = sheet_of r d p ≡ s

-- registers r become r' by the step f of the whole sheet, whatever the memories hold: neither is lent, neither changes
abbrev pub Steps : (Sheet → Sheet) → Registers → Registers → Type 0
Steps f r r' = (d p : List ℕ) → sheet_of r' d p ≡ f (sheet_of r d p)

-- the same where display memory is lent and becomes d'
abbrev pub StepsDisplay : (Sheet → Sheet) → Registers → List ℕ → Registers → List ℕ → Type 0
StepsDisplay f r d r' d' = (p : List ℕ) → sheet_of r' d' p ≡ f (sheet_of r d p)

-- the same where both are lent
abbrev pub StepsBoth : (Sheet → Sheet) → Registers → List ℕ → List ℕ → Registers → List ℕ → List ℕ → Type 0
StepsBoth f r d p r' d' p' = sheet_of r' d' p' ≡ f (sheet_of r d p)

-- a sheet with one part set anew
abbrev pub on_registers : (Registers → Registers) → Sheet → Sheet
on_registers f s = sheet_of (f s.registers) s.display s.pattern

abbrev pub with_display : List ℕ → Sheet → Sheet
with_display d s = sheet_of s.registers d s.pattern

abbrev pub with_pattern : List ℕ → Sheet → Sheet
with_pattern p s = sheet_of s.registers s.display p

-- registers with what is set together set anew
abbrev pub with_address : Address → Registers → Registers
with_address a r = record { chip = r.chip; address = a; shift = r.shift; up = r.up; follow = r.follow; on = r.on; cursor = r.cursor; blink = r.blink; eight = r.eight; function = r.function; good = r.good; written = r.written }

abbrev pub with_shift : ℕ → Registers → Registers
with_shift n r = record { chip = r.chip; address = r.address; shift = n; up = r.up; follow = r.follow; on = r.on; cursor = r.cursor; blink = r.blink; eight = r.eight; function = r.function; good = r.good; written = r.written }

abbrev pub with_entry : Bool → Bool → Registers → Registers
with_entry i s r = record { chip = r.chip; address = r.address; shift = r.shift; up = i; follow = s; on = r.on; cursor = r.cursor; blink = r.blink; eight = r.eight; function = r.function; good = r.good; written = r.written }

abbrev pub with_screen : Bool → Bool → Bool → Registers → Registers
with_screen d c b r = record { chip = r.chip; address = r.address; shift = r.shift; up = r.up; follow = r.follow; on = d; cursor = c; blink = b; eight = r.eight; function = r.function; good = r.good; written = r.written }

abbrev pub with_function : Bool → ℕ → Registers → Registers
with_function width bits r = record { chip = r.chip; address = r.address; shift = r.shift; up = r.up; follow = r.follow; on = r.on; cursor = r.cursor; blink = r.blink; eight = width; function = bits; good = r.good; written = r.written }

abbrev pub with_good : Bool → Registers → Registers
with_good b r = record { chip = r.chip; address = r.address; shift = r.shift; up = r.up; follow = r.follow; on = r.on; cursor = r.cursor; blink = r.blink; eight = r.eight; function = r.function; good = b; written = r.written }

abbrev pub with_written : ℕ → Registers → Registers
with_written bits r = record { chip = r.chip; address = r.address; shift = r.shift; up = r.up; follow = r.follow; on = r.on; cursor = r.cursor; blink = r.blink; eight = r.eight; function = r.function; good = r.good; written = bits }
