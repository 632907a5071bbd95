-- No step changes which chip it is.
use Rattle.std.specs.Prelude.{ℕ, ◌≡◌, refl, Bool, true, false}
use Rattle.chip.specs.Instruction.{decoded}
use Rattle.chip.specs.Step.{acted, obeyed, next_good, stepped, stored_at, followed, shifts_at, written, passed}
use Rattle.chip.specs.declared.address.Address.{Address}
use Rattle.chip.specs.declared.address.Address.TheVariants.{Display, Pattern}
use Rattle.chip.specs.declared.instruction.Instruction.{Instruction}
use Rattle.chip.specs.declared.instruction.Instruction.TheVariants.{Nothing, Clear, Home, Entry, Screen, Move, Shift, Function, Set}
use Rattle.chip.specs.declared.sheet.Sheet.{Sheet}

abbrev pub SameChip : (Sheet → Sheet) → Type 0
SameChip f = (s : Sheet) → (f s).registers.chip ≡ s.registers.chip

pub acted_chip : (i : Instruction) → SameChip (acted i)
acted_chip Nothing s = refl
acted_chip Clear s = refl
acted_chip Home s = refl
acted_chip (Entry up follow) s = refl
acted_chip (Screen on cursor blink) s = refl
acted_chip (Move up) s = refl
acted_chip (Shift left) s = refl
acted_chip (Function eight bits) s = refl
acted_chip (Set a) s = refl

-- every code
pub obeyed_chip : (code : ℕ) → SameChip (obeyed code)
obeyed_chip code s = acted_chip (decoded s.registers.chip code) s

-- a data write
pub written_chip : (byte : ℕ) → SameChip (written byte)
written_chip byte s = at s.registers.address (shifts_at s.registers.address s.registers.follow)
  where
    at : (a : Address) (b : Bool) → (followed b (next_good false (stepped s.registers.up (stored_at a byte s)))).registers.chip ≡ s.registers.chip
    at (Display d) true = refl
    at (Display d) false = refl
    at (Pattern p) true = refl
    at (Pattern p) false = refl

-- a data read
pub passed_chip : SameChip passed
passed_chip s = refl
