-- Which places are written: the bits of a sound panel, and each clause of what a record does to them, by the chip's own laws.
use Rattle.std.specs.Prelude.{ℕ, ◌%◌, ◌<◌, ◌≡◌, refl, Bool, true, false, List, Ok, Err}
use Rattle.std.proofs.Common.{sym, ap, ◌∙◌, arith}
use Rattle.laws.specs.Pick.{pick}
use Rattle.laws.specs.Bit.{bit, one}
use Rattle.laws.specs.laws.BitLaws.{with_bit_lem}
use Rattle.chip.specs.Sizes.{places_of, display_size}
use Rattle.chip.specs.Written.{unblank, is_written}
use Rattle.chip.specs.Step.{obeyed, written, written_at, passed}
use Rattle.chip.proofs.laws.StepLaws.{written_as}
use Rattle.chip.proofs.laws.WrittenLaws.{walk_bit, past_unwritten, display_write_marks, pattern_write_leaves, read_leaves, clear_unwrites, code_leaves}
use Rattle.chip.specs.declared.address.Address.{Address}
use Rattle.chip.specs.declared.sheet.Sheet.{Sheet}
use Rattle.mirror.specs.Panel.{sound_panel}
use Rattle.mirror.specs.Table.{byte_of}
use Rattle.mirror.specs.Answers.{panel_after, Proper}
use Rattle.mirror.specs.Good.{CarriedOut}
use Rattle.mirror.specs.Written.{walk_of, Tells, bit_at, Agree, Keeps, KeptBits}
use Rattle.mirror.specs.laws.SoundParts.{parts, whole}
use Rattle.mirror.specs.laws.SoundLaws.{record_lasts}
use Rattle.mirror.specs.laws.TypedLaws.{proper_lasts}
use Rattle.mirror.specs.laws.CarriedLaws.{carried_sheet, reset_sheet}
use Rattle.mirror.specs.laws.RecordKeeps.{untaken_keeps}
use Rattle.mirror.specs.declared.panel.Panel.{Panel}
use Rattle.mirror.specs.declared.answer.Refusal.TheVariants.{Unsound}

-- the bits that a sound panel keeps
pub bits_walk : (p : Panel) → sound_panel p ≡ true → p.sheet.registers.written ≡ walk_of p
bits_walk p e = (parts p e).sheet.written

-- what the call answers, by the test that it makes
pub tells_refused : (p : Panel) → sound_panel p ≡ false → Tells p (Err Unsound)
tells_refused p e = record { told = rw e; paper = rw e }

pub tells_kept : (p : Panel) → sound_panel p ≡ true → Tells p (Ok p.sheet.registers.written)
tells_kept p e = record { told = rw (e, bits_walk p e); paper = rw (e, bits_walk p e) }

pub sound_bits : (p : Panel) → sound_panel p ≡ true → Agree p
sound_bits p e =
    let n = p.sheet.registers.chip in
    let m = p.sheet.display in
    let exactly : (a : ℕ) → a < display_size → bit_at p a ≡ one (is_written m a) =
    λ a h. ap (λ (x : ℕ). bit x a) (bits_walk p e) ∙ walk_bit display_size m a h in
    record {
      walked = bits_walk p e;
      exactly = exactly;
      past = λ w a l h. exactly a h ∙ ap one (past_unwritten n m a (parts p e).sheet.blank l (omega (arith, w)));
    }

module _ (p : Panel) (log : List ℕ) where
  -- the bits after what was carried out
  carried_bits : {rs reads : Bool} → CarriedOut p log rs reads →
      (panel_after p log).sheet.registers.written
      ≡ (pick rs (pick reads (passed p.sheet) (written (byte_of p log) p.sheet)) (obeyed (byte_of p log) p.sheet)).registers.written
  carried_bits c = ap (λ (s : Sheet). s.registers.written) (carried_sheet p log c)

  -- a write by the memory that its address points into
  write_bits : {a : Address} → CarriedOut p log true false → p.sheet.registers.address ≡ a →
      (panel_after p log).sheet.registers.written ≡ (written_at a (byte_of p log) p.sheet).registers.written
  write_bits {a} c e = carried_bits c ∙ ap (λ (s : Sheet). s.registers.written) (sym (written_as a (byte_of p log) p.sheet e))

  proper_sound : Proper p log → sound_panel (panel_after p log) ≡ true
  proper_sound h = whole (panel_after p log) (record_lasts p log (h.bytes 13) (proper_lasts h)).sound

  keeps : Keeps p log
  keeps =
      record {
        still = λ h. sound_bits (panel_after p log) (proper_sound h);
        display_write = λ d w c a h.
            ap (λ (x : ℕ). bit x a) (write_bits c.stores c.there ∙ display_write_marks d (byte_of p log) p.sheet (omega (arith, w)))
            ∙ with_bit_lem display_size (d.0 % places_of p.sheet.registers.chip) (unblank (byte_of p log)) p.sheet.registers.written a h;
        pattern_write = λ q c. write_bits c.stores c.there ∙ pattern_write_leaves q (byte_of p log) p.sheet;
        read = λ c. carried_bits c ∙ read_leaves p.sheet;
        fresh = λ chip r l s. refl;
        reset = λ o e. ap (λ (s : Sheet). s.registers.written) (reset_sheet p log o e);
        clear = λ c e. carried_bits c ∙ ap (λ (code : ℕ). (obeyed code p.sheet).registers.written) e ∙ clear_unwrites p.sheet;
        instruction = λ c l. carried_bits c ∙ code_leaves (byte_of p log) p.sheet l;
        not_carried_out = λ o. ap (λ (q : Panel). q.sheet.registers.written) (untaken_keeps p log o);
      }

pub written_places : KeptBits
written_places = record { bits = sound_bits; kept = keeps }
