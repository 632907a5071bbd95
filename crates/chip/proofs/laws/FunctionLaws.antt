-- The low four Function Set bits are kept as written, and no step and no read looks at them.
use Rattle.std.specs.Prelude.{ℕ, ◌≡◌, refl, Bool, true, false}
use Rattle.std.proofs.Common.{sym, ap, ◌∙◌}
use Rattle.chip.specs.Sheet.{read_here}
use Rattle.chip.specs.Regardless.{bitless, Regardless}
use Rattle.chip.specs.Instruction.{decoded}
use Rattle.chip.specs.Step.{acted, obeyed, next_good, stepped, stored_at, followed, written_at, written, passed}
use Rattle.chip.specs.declared.address.Address.{Address}
use Rattle.chip.specs.declared.address.Address.TheVariants.{Display, Pattern}
use Rattle.chip.specs.declared.instruction.Instruction.{Instruction}
use Rattle.chip.specs.declared.instruction.Instruction.TheVariants.{Nothing, Clear, Home, Entry, Screen, Move, Shift, Function, Set}
use Rattle.chip.specs.declared.sheet.Sheet.{Sheet}

-- a step has no regard for them where forgetting them before it changes nothing
forgetting : (f : Sheet → Sheet) → ((s : Sheet) → bitless (f (bitless s)) ≡ bitless (f s)) → Regardless f
forgetting f h s t e = sym (h s) ∙ ap (λ x. bitless (f x)) e ∙ h t

-- forgetting them before an instruction changes nothing else of what comes of it
forgotten : (i : Instruction) (s : Sheet) → bitless (acted i (bitless s)) ≡ bitless (acted i s)
forgotten Nothing s = refl
forgotten Clear s = refl
forgotten Home s = refl
forgotten (Entry up follow) s = refl
forgotten (Screen on cursor blink) s = refl
forgotten (Move up) s = refl
forgotten (Shift left) s = refl
forgotten (Function eight bits) s = refl
forgotten (Set a) s = refl

pub acted_regardless : (i : Instruction) → Regardless (acted i)
acted_regardless i = forgetting (acted i) (forgotten i)

-- every code
pub obeyed_regardless : (code : ℕ) → Regardless (obeyed code)
obeyed_regardless code = forgetting (obeyed code) (λ s. forgotten (decoded s.registers.chip code) s)

-- a data write
pub written_regardless : (byte : ℕ) → Regardless (written byte)
written_regardless byte = forgetting (written byte) (λ s. at s s.registers.address)
  where
    on : (s : Sheet) (b : Bool) → bitless (followed b (bitless s)) ≡ bitless (followed b s)
    on s true = refl
    on s false = refl

    at : (s : Sheet) (a : Address) → bitless (written_at a byte (bitless s)) ≡ bitless (written_at a byte s)
    at s (Display d) = on (next_good false (stepped s.registers.up (stored_at (Display d) byte s))) s.registers.follow
    at s (Pattern p) = refl

-- a data read, and the byte that it puts on the bus
pub passed_regardless : Regardless passed
passed_regardless = forgetting passed (λ s. refl)

pub read_regardless : (s t : Sheet) → bitless s ≡ bitless t → read_here s.registers s.display s.pattern ≡ read_here t.registers t.display t.pattern
read_regardless s t e = ap (λ (x : Sheet). read_here x.registers x.display x.pattern) e
