-- WHICH PLACES ARE WRITTEN (document 02, wish 3): what a call answers; what the bits of a sound panel are, and what a record does to them, clause by clause.
use Rattle.std.specs.Prelude.{ℕ, ◌%◌, ◌<◌, ◌≤◌, ◌≡◌, true, false, not, List, length, eqb, Result, Ok, Err}
use Rattle.std.proofs.Math.Option.{Option, none, some}
use Rattle.laws.specs.Pick.{pick}
use Rattle.laws.specs.Bit.{bit, one}
use Rattle.framing.specs.Frame.{is_reset}
use Rattle.chip.specs.Sizes.{places_of, display_size}
use Rattle.chip.specs.Written.{unblank, is_written, written_in}
use Rattle.chip.specs.declared.address.DisplayAddress.{DisplayAddress}
use Rattle.chip.specs.declared.address.PatternAddress.{PatternAddress}
use Rattle.chip.specs.declared.address.Address.{Address}
use Rattle.chip.specs.declared.address.Address.TheVariants.{Display, Pattern}
use Rattle.mirror.specs.Answer.{carried_out}
use Rattle.mirror.specs.Refusal.{refusal_number}
use Rattle.mirror.specs.Panel.{fresh_panel, sound_panel}
use Rattle.mirror.specs.Table.{byte_of}
use Rattle.mirror.specs.Answers.{answer_to, panel_after, Proper}
use Rattle.mirror.specs.Good.{CarriedOut, Instructed}
use Rattle.mirror.specs.declared.panel.Panel.{Panel}
use Rattle.mirror.specs.declared.answer.Refusal.{Refusal}
use Rattle.mirror.specs.declared.answer.Refusal.TheVariants.{Unsound}

-- this paper's number of an answer, none where nothing was refused, and its bits
pub record WrittenPaper : Type 0 where
  pub number : Option ℕ
  pub bits : ℕ

abbrev pub written_paper : Result ℕ Refusal → WrittenPaper
written_paper (Ok bits) = record { number = none; bits = bits }
written_paper (Err refusal) = record { number = some (refusal_number refusal); bits = 0 }

-- what the walk over display memory answers
abbrev pub walk_of : Panel → ℕ
walk_of p = written_in display_size p.sheet.display

-- 10 for a panel that is not sound; otherwise what the walk answers
abbrev pub written_of : Panel → Result ℕ Refusal
written_of p = pick (not (sound_panel p)) (Err Unsound) (Ok (walk_of p))

abbrev pub written_for : Panel → WrittenPaper
written_for p = pick (not (sound_panel p)) (record { number = some 10; bits = 0 }) (record { number = none; bits = walk_of p })

-- all that the call says
pub record Tells (p : Panel) (answer : Result ℕ Refusal) : Type 0 where
  pub told : answer ≡ written_of p
  pub paper : written_paper answer ≡ written_for p

-- bit a of a panel
abbrev pub bit_at : Panel → ℕ → ℕ
bit_at p a = bit p.sheet.registers.written a

-- display memory has its 32 bytes, as its type holds them
abbrev pub Whole : Panel → Type 0
Whole p = length p.sheet.display ≡ display_size

-- WHAT THE BITS ARE, of a sound panel
pub record Agree (p : Panel) : Type 0 where
  -- the walk's answer
  pub walked : p.sheet.registers.written ≡ walk_of p
  -- bit a is set exactly when the byte at display address a isn't 20h
  pub exactly : (a : ℕ) → a < display_size → bit_at p a ≡ one (is_written p.sheet.display a)
  -- past the chip's own places, on one line from 16 on, it is 0
  pub past : Whole p → (a : ℕ) → places_of p.sheet.registers.chip ≤ a → a < display_size → bit_at p a ≡ 0

-- a data write that is carried out at an address
pub record WritesAt (p : Panel) (log : List ℕ) (a : Address) : Type 0 where
  pub stores : CarriedOut p log true false
  pub there : p.sheet.registers.address ≡ a

-- the bits after a record are those before it
abbrev pub Stay : Panel → List ℕ → Type 0
Stay p log = (panel_after p log).sheet.registers.written ≡ p.sheet.registers.written

-- WHAT A RECORD DOES TO THEM
pub record Keeps (p : Panel) (log : List ℕ) : Type 0 where
  -- a sound panel's are the walk's answer afterwards too
  pub still : Proper p log → Agree (panel_after p log)
  -- a display write sets the bit of its address for a byte that isn't 20h and clears it for 20h; every other bit stays as it was
  pub display_write : (d : DisplayAddress) → Whole p → WritesAt p log (Display d) → (a : ℕ) → a < display_size →
      bit_at (panel_after p log) a ≡ pick (eqb a (d.0 % places_of p.sheet.registers.chip)) (one (unblank (byte_of p log))) (bit_at p a)
  -- a write in pattern memory changes none, nor does a data read, good or doubtful
  pub pattern_write : (q : PatternAddress) → WritesAt p log (Pattern q) → Stay p log
  pub read : CarriedOut p log true true → Stay p log
  -- a fresh panel has none, and after a reset or Clear, 01h, there are none
  pub fresh : (chip reset long short : ℕ) → (fresh_panel chip reset long short).sheet.registers.written ≡ 0
  pub reset : carried_out (answer_to p log) ≡ true → is_reset log ≡ true → (panel_after p log).sheet.registers.written ≡ 0
  pub clear : Instructed p log → byte_of p log ≡ 0x01 → (panel_after p log).sheet.registers.written ≡ 0
  -- every other instruction changes none, nor does any record that isn't carried out
  pub instruction : Instructed p log → 2 ≤ byte_of p log → Stay p log
  pub not_carried_out : carried_out (answer_to p log) ≡ false → Stay p log

-- of every panel and record
pub record KeptBits : Type 0 where
  pub bits : (p : Panel) → sound_panel p ≡ true → Agree p
  pub kept : (p : Panel) (log : List ℕ) → Keeps p log
