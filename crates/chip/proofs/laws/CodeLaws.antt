-- The instruction table read from a code on, and what its instructions leave.
use Rattle.std.specs.Prelude.{ℕ, ◌%◌, ◌≤◌, ◌≡◌, Bool, true, false, ltb}
use Rattle.std.proofs.Common.{arith, le-ltb}
use Rattle.laws.specs.Pick.{pick}
use Rattle.chip.specs.Sizes.{places_of, pattern_size, function_end}
use Rattle.chip.specs.Address.{display, pattern}
use Rattle.chip.specs.Instruction.{is_set, unset, decoded}
use Rattle.chip.specs.Step.{acted}
use Rattle.chip.specs.declared.address.Address.TheVariants.{Display, Pattern}
use Rattle.chip.specs.declared.instruction.Instruction.{Instruction}
use Rattle.chip.specs.declared.instruction.Instruction.TheVariants.{Move, Shift, Function, Set}
use Rattle.chip.specs.declared.registers.Registers.{Registers}
use Rattle.chip.specs.declared.sheet.Sheet.{Sheet}

-- an address set, 40h and above
abbrev pub set_at : ℕ → ℕ → Instruction
set_at chip code = pick (ltb code 0x80) (Set (Pattern (pattern (code % pattern_size)))) (Set (Display (display (code % places_of chip))))

-- from 20h on
abbrev pub high_at : ℕ → ℕ → Instruction
high_at chip code = pick (ltb code 0x40) (Function (is_set 0x10 code) (code % function_end)) (set_at chip code)

-- from 10h on
pub upper_code : (chip code : ℕ) → 0x10 ≤ code →
    decoded chip code ≡ pick (ltb code 0x18) (Move (is_set 4 code)) (pick (ltb code 0x20) (Shift (unset 4 code)) (high_at chip code))
upper_code chip code h =
    rw (le-ltb code 0x01 (omega arith), le-ltb code 0x02 (omega arith), le-ltb code 0x04 (omega arith), le-ltb code 0x08 (omega arith), le-ltb code 0x10 h)

pub high_code : (chip code : ℕ) → 0x20 ≤ code → decoded chip code ≡ high_at chip code
high_code chip code h = rw (upper_code chip code (omega arith), le-ltb code 0x18 (omega arith), le-ltb code 0x20 h)

-- an instruction that leaves a part of the registers
pub data Keeps {A : Type 0} (part : Registers → A) : Instruction → Type 0 where
  keeps : (i : Instruction) → ((s : Sheet) → part (acted i s).registers ≡ part s.registers) → Keeps part i

pub either : {A : Type 0} {part : Registers → A} (b : Bool) {x y : Instruction} → Keeps part x → Keeps part y → Keeps part (pick b x y)
either true k l = k
either false k l = l

pub kept : {A : Type 0} {part : Registers → A} {i : Instruction} → Keeps part i → (s : Sheet) → part (acted i s).registers ≡ part s.registers
kept (keeps i k) s = k s
