-- Laws of one record that the engine's proofs cite.
use Rattle.std.specs.Prelude.{ℕ, ◌≡◌, Bool, List}
use Rattle.std.proofs.Common.{ap, ◌∙◌}
use Rattle.chip.specs.Sheet.{sheet_of, read_here}
use Rattle.chip.specs.declared.registers.Registers.{Registers}
use Rattle.chip.specs.declared.sheet.Sheet.{Sheet}
use Rattle.mirror.specs.engine.Way.{Way, way_of}
use Rattle.mirror.specs.Words.{joined_of, free, done}
use Rattle.mirror.specs.engine.Record.{recorded, went, transferred}
use Rattle.mirror.specs.declared.answer.Answer.{Answer}
use Rattle.mirror.specs.declared.panel.Panel.{Panel}

-- a transfer by its byte and its way, once they are known
pub by_way : (time : ℕ) (rs reads : Bool) (bus : ℕ) (p : Panel) (byte : ℕ) (v : Way) →
    byte ≡ joined_of p.sheet.registers.eight p.half bus →
    v ≡ way_of p.sheet.registers.eight p.half (free time p) rs reads byte →
    went v time rs reads bus byte p ≡ transferred time rs reads bus p
unfolding transferred
by_way time rs reads bus p byte v b d =
    ap (λ x. went x time rs reads bus byte p) d ∙
    ap (λ y. went (way_of p.sheet.registers.eight p.half (free time p) rs reads y) time rs reads bus y p) b

-- a step of equal registers
pub stepped_as : (f : Sheet → Sheet) (s : Sheet) (r q : Registers) (d p : List ℕ) → s ≡ f (sheet_of r d p) → r ≡ q → s ≡ f (sheet_of q d p)
stepped_as f s r q d p e g = e ∙ ap (λ x. f (sheet_of x d p)) g

pub read_as : (b : ℕ) (r q : Registers) (d p : List ℕ) → b ≡ read_here r d p → r ≡ q → b ≡ read_here q d p
read_as b r q d p e g = e ∙ ap (λ x. read_here x d p) g

pub span_as : (time : ℕ) (s : Sheet) (span width : ℕ) (p : Panel) (a : Answer) (b used : ℕ) → span ≡ width →
    recorded (done time s span p) a b used ≡ recorded (done time s width p) a b used
span_as time s span width p a b used e = ap (λ x. recorded (done time s x p) a b used) e
