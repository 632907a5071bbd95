-- The width: Function Set, 20h to 3Fh, gives it by bit 4, and nothing else changes it.
use Rattle.std.specs.Prelude.{ℕ, ◌%◌, ◌≡◌, refl, Bool, true, false, ltb}
use Rattle.std.proofs.Common.{ap, ◌∙◌, ltb-false}
use Rattle.laws.specs.Pick.{pick}
use Rattle.chip.specs.Sizes.{places_of, pattern_size, function_end}
use Rattle.chip.specs.Address.{display, pattern}
use Rattle.chip.specs.Instruction.{is_set, unset, decoded}
use Rattle.chip.specs.Step.{acted, obeyed, written_at, written}
use Rattle.chip.proofs.laws.CodeLaws.{Keeps, either, kept, high_code}
use Rattle.chip.proofs.laws.CodeLaws.Keeps.{keeps}
use Rattle.chip.proofs.laws.StepLaws.{pattern_write_keeps, display_write_keeps}
use Rattle.chip.specs.declared.address.Address.{Address}
use Rattle.chip.specs.declared.address.Address.TheVariants.{Display, Pattern}
use Rattle.chip.specs.declared.instruction.Instruction.{Instruction}
use Rattle.chip.specs.declared.instruction.Instruction.TheVariants.{Nothing, Clear, Home, Entry, Screen, Move, Shift, Function, Set}
use Rattle.chip.specs.declared.sheet.Sheet.{Sheet}

-- an instruction that leaves the width
abbrev KeepsWidth : Instruction → Type 0
KeepsWidth = Keeps (λ r. r.eight)

low_keeps : (chip code : ℕ) → ltb code 0x20 ≡ true → KeepsWidth (decoded chip code)
low_keeps chip code e =
    rw e
    (either (ltb code 0x01) (keeps Nothing (λ s. refl))
    (either (ltb code 0x02) (keeps Clear (λ s. refl))
    (either (ltb code 0x04) (keeps Home (λ s. refl))
    (either (ltb code 0x08) (keeps (Entry (is_set 2 code) (is_set 1 code)) (λ s. refl))
    (either (ltb code 0x10) (keeps (Screen (is_set 4 code) (is_set 2 code) (is_set 1 code)) (λ s. refl))
    (either (ltb code 0x18) (keeps (Move (is_set 4 code)) (λ s. refl))
    (keeps (Shift (unset 4 code)) (λ s. refl))))))))

pub obeyed_width : (code : ℕ) (s : Sheet) →
    (obeyed code s).registers.eight ≡ pick (ltb code 0x20) s.registers.eight (pick (ltb code 0x40) (is_set 0x10 code) s.registers.eight)
obeyed_width code s = by (ltb code 0x20) refl where
  eight : Bool
  eight = s.registers.eight

  high : (a b : Bool) → (acted (pick a (Function (is_set 0x10 code) (code % function_end)) (pick b (Set (Pattern (pattern (code % pattern_size)))) (Set (Display (display (code % places_of s.registers.chip)))))) s).registers.eight ≡ pick a (is_set 0x10 code) eight
  high true b = refl
  high false true = refl
  high false false = refl

  by : (b : Bool) → ltb code 0x20 ≡ b → (obeyed code s).registers.eight ≡ pick b eight (pick (ltb code 0x40) (is_set 0x10 code) eight)
  by true e = kept (low_keeps s.registers.chip code e) s
  by false e = ap (λ i. (acted i s).registers.eight) (high_code s.registers.chip code (ltb-false code 0x20 e)) ∙ high (ltb code 0x40) (ltb code 0x80)

pub written_width : (byte : ℕ) (s : Sheet) → (written byte s).registers.eight ≡ s.registers.eight
written_width byte s = by s.registers.address where
  by : (a : Address) → (written_at a byte s).registers.eight ≡ s.registers.eight
  by (Display d) = (display_write_keeps d byte s).2.0
  by (Pattern q) = (pattern_write_keeps q byte s).3.0
