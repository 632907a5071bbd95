-- Whether the next read is good, after an instruction by its code and after a data transfer (document 02, wish 2).
use Rattle.std.specs.Prelude.{ℕ, ◌%◌, ◌<◌, ◌≤◌, ◌≡◌, refl, Bool, true, false, ltb}
use Rattle.std.proofs.Common.{arith, lt-ltb, le-ltb}
use Rattle.laws.specs.Pick.{pick}
use Rattle.chip.specs.Sizes.{places_of, pattern_size}
use Rattle.chip.specs.Address.{display, pattern, in_display}
use Rattle.chip.specs.Instruction.{is_set}
use Rattle.chip.specs.Step.{acted, obeyed, next_good, stepped, stored_at, followed, shifts_at, written, passed}
use Rattle.chip.proofs.laws.CodeLaws.{upper_code, high_code}
use Rattle.chip.specs.declared.address.Address.TheVariants.{Display, Pattern}
use Rattle.chip.specs.declared.instruction.Instruction.TheVariants.{Clear, Home, Entry, Screen, Set}
use Rattle.chip.specs.declared.sheet.Sheet.{Sheet}

-- after 01h to 0Fh it is not
pub low_doubtful : (code : ℕ) (s : Sheet) → 0x01 ≤ code → code < 0x10 → (obeyed code s).registers.good ≡ false
low_doubtful code s l h = rw (le-ltb code 0x01 l, lt-ltb code 0x10 h) (by (ltb code 0x02) (ltb code 0x04) (ltb code 0x08))
  where
    by : (a b c : Bool) →
        (acted (pick a Clear (pick b Home (pick c (Entry (is_set 2 code) (is_set 1 code)) (Screen (is_set 4 code) (is_set 2 code) (is_set 1 code))))) s).registers.good ≡ false
    by true b c = refl
    by false true c = refl
    by false false true = refl
    by false false false = refl

-- after a cursor shift, 10h to 17h, it is where the address points into display memory
pub move_good : (code : ℕ) (s : Sheet) → 0x10 ≤ code → code < 0x18 → (obeyed code s).registers.good ≡ in_display s.registers.address
move_good code s l h = rw (upper_code s.registers.chip code l, lt-ltb code 0x18 h)

-- a display shift, 18h to 1Fh, leaves it as it was
pub shift_leaves : (code : ℕ) (s : Sheet) → 0x18 ≤ code → code < 0x20 → (obeyed code s).registers.good ≡ s.registers.good
shift_leaves code s l h = rw (upper_code s.registers.chip code (omega arith), le-ltb code 0x18 l, lt-ltb code 0x20 h)

-- after a Function Set, 20h to 3Fh, it is not
pub function_doubtful : (code : ℕ) (s : Sheet) → 0x20 ≤ code → code < 0x40 → (obeyed code s).registers.good ≡ false
function_doubtful code s l h = rw (high_code s.registers.chip code l, lt-ltb code 0x40 h)

-- after an address set, 40h and above, it is
pub set_good : (code : ℕ) (s : Sheet) → 0x40 ≤ code → (obeyed code s).registers.good ≡ true
set_good code s l = rw (high_code s.registers.chip code (omega arith), le-ltb code 0x40 l) (by (ltb code 0x80))
  where
    by : (a : Bool) → (acted (pick a (Set (Pattern (pattern (code % pattern_size)))) (Set (Display (display (code % places_of s.registers.chip))))) s).registers.good ≡ true
    by true = refl
    by false = refl

-- after a data write, in either memory, it is not
pub write_doubtful : (byte : ℕ) (s : Sheet) → (written byte s).registers.good ≡ false
write_doubtful byte s = by (shifts_at s.registers.address s.registers.follow)
  where
    by : (b : Bool) → (followed b (next_good false (stepped s.registers.up (stored_at s.registers.address byte s)))).registers.good ≡ false
    by true = refl
    by false = refl

-- after a data read, good or not, it is
pub read_good : (s : Sheet) → (passed s).registers.good ≡ true
read_good s = refl
