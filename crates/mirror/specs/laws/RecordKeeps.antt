-- What a record leaves as it was (document 01, "Answer numbers", "Busy"; slip 2).
use Rattle.std.specs.Prelude.{ℕ, ◌≡◌, refl, Bool, true, false, not, ◌&&◌, ◌||◌, List, [], ◌∷◌, leb, eqb}
use Rattle.std.proofs.Common.{sym, ap, ◌∙◌, arith, eqb-true}
use Rattle.std.proofs.lemmas.Bool.{false≢true}
use Rattle.std.proofs.Math.Bool.{and-false}
use Rattle.laws.specs.Pick.{pick}
use Rattle.framing.specs.Frame.{kind_of, time_of, rs_of, rw_of, is_transfer, is_reset}
use Rattle.chip.specs.Sheet.{fresh_sheet}
use Rattle.chip.specs.Step.{obeyed, written, passed}
use Rattle.chip.proofs.laws.ChipLaws.{obeyed_chip, written_chip, passed_chip}
use Rattle.chip.specs.declared.sheet.Sheet.{Sheet}
use Rattle.mirror.specs.Answer.{carried_out}
use Rattle.mirror.specs.Words.{holding, done}
use Rattle.mirror.specs.Table.{waits, byte_of, is_first, is_status, sheet_for, span_for, held_half, ignored_half, panel_for}
use Rattle.mirror.specs.Answers.{answer_to, panel_after, panel_after_all, clocked, AllUnclocked}
use Rattle.mirror.specs.laws.TableCase.{answer_case, each_row}
use Rattle.mirror.specs.Case.{Case}
use Rattle.mirror.specs.Case.Case.{unsound, cut, bad, back, reset, torn, ignored, nothing, held, status, doubtful, taken}
use Rattle.mirror.specs.declared.half.Half.{Half}
use Rattle.mirror.specs.declared.half.Half.TheVariants.{Empty, Ignored}
use Rattle.mirror.specs.declared.panel.Panel.{Panel}

-- what is carried out leaves the chip: no step changes it, and a reset gives a fresh sheet of the same
sheet_chip : (p : Panel) (log : List ℕ) → (sheet_for p log).registers.chip ≡ p.sheet.registers.chip
sheet_chip p log = by (is_reset log) (rs_of log) (rw_of log) where
  by : (a b c : Bool) →
      (pick a (fresh_sheet p.sheet.registers.chip) (pick b (pick c (passed p.sheet) (written (byte_of p log) p.sheet)) (obeyed (byte_of p log) p.sheet))).registers.chip
      ≡ p.sheet.registers.chip
  by true b c = refl
  by false true true = passed_chip p.sheet
  by false true false = written_chip (byte_of p log) p.sheet
  by false false c = obeyed_chip (byte_of p log) p.sheet

-- what is carried out sets the last time
out_clocked : (n : ℕ) → carried_out n ≡ true → clocked n ≡ true
out_clocked n o = ap (λ b. b || leb n 4 || eqb n 7) o

-- a panel afterwards: as it was; or with another last time and half; or with something carried out, on the same chip
data After (p : Panel) (log : List ℕ) : ℕ → Panel → Type 0 where
  same : {n : ℕ} → clocked n ≡ false → After p log n p
  waiting : {n : ℕ} (half : Half) → clocked n ≡ true → (is_first p ≡ false → half ≡ Empty) → After p log n (holding (time_of log) half p)
  acted : {n : ℕ} (s : Sheet) (span : ℕ) → carried_out n ≡ true → s.registers.chip ≡ p.sheet.registers.chip → After p log n (done (time_of log) s span p)

after : (p : Panel) (log : List ℕ) → After p log (answer_to p log) (panel_after p log)
after p log = each_row p log (After p log) by where
  by : (n : ℕ) → Case p log n → After p log n (panel_for n p log)
  by n (unsound a) = same refl
  by n (cut a b) = same refl
  by n (bad a b c) = same refl
  by n (back a b c d) = same refl
  by n (reset h a) = acted (sheet_for p log) (span_for p log) refl (sheet_chip p log)
  by n (torn h a b) = waiting Empty refl (λ f. refl)
  by n (ignored h a) = waiting (ignored_half p log) refl (λ f. ap (λ b. pick b (Ignored (rs_of log) (rw_of log)) Empty) f)
  by n (nothing h a b) = waiting Empty refl (λ f. refl)
  by n (held h a) = waiting (held_half p log) refl (λ f. absurd (false≢true (sym f ∙ a)))
  by n (status h a b) = waiting Empty refl (λ f. refl)
  by n (doubtful h a b d) = acted (sheet_for p log) (span_for p log) refl (sheet_chip p log)
  by n (taken h a b d) = acted (sheet_for p log) (span_for p log) refl (sheet_chip p log)

-- answers 5, 6, 8 and 10 leave the panel as it was
pub unclocked_keeps : (p : Panel) (log : List ℕ) → clocked (answer_to p log) ≡ false → panel_after p log ≡ p
unclocked_keeps p log = by (after p log) where
  by : {n : ℕ} {q : Panel} → After p log n q → clocked n ≡ false → q ≡ p
  by (same c) e = refl
  by (waiting half c f) e = absurd (false≢true (sym e ∙ c))
  by {n} (acted s span o k) e = absurd (false≢true (sym e ∙ out_clocked n o))

-- answers 0 to 4, 7 and 11 set the last time to the record's time
pub clocked_last : (p : Panel) (log : List ℕ) → clocked (answer_to p log) ≡ true → (panel_after p log).last ≡ time_of log
clocked_last p log = by (after p log) where
  by : {n : ℕ} {q : Panel} → After p log n q → clocked n ≡ true → q.last ≡ time_of log
  by (same c) e = absurd (false≢true (sym c ∙ e))
  by (waiting half c f) e = refl
  by (acted s span o k) e = refl

-- nothing but a record that is carried out changes more than the last time and the half
pub untaken_keeps : (p : Panel) (log : List ℕ) → carried_out (answer_to p log) ≡ false →
    panel_after p log ≡ holding (panel_after p log).last (panel_after p log).half p
untaken_keeps p log = by (after p log) where
  by : {n : ℕ} {q : Panel} → After p log n q → carried_out n ≡ false → q ≡ holding q.last q.half p
  by (same c) z = refl
  by (waiting half c f) z = refl
  by (acted s span o k) z = absurd (false≢true (sym z ∙ o))

-- so an ignored transfer, among others, leaves the busy end (slip 2)
pub untaken_busy : (p : Panel) (log : List ℕ) → carried_out (answer_to p log) ≡ false → (panel_after p log).busy ≡ p.busy
untaken_busy p log z = ap (λ (q : Panel). q.busy) (untaken_keeps p log z)

-- the times stay
pub times_stay : (p : Panel) (log : List ℕ) → (panel_after p log).times ≡ p.times
times_stay p log = by (after p log) where
  by : {n : ℕ} {q : Panel} → After p log n q → q.times ≡ p.times
  by (same c) = refl
  by (waiting half c f) = refl
  by (acted s span o k) = refl

-- and so does the chip
pub chip_stays : (p : Panel) (log : List ℕ) → (panel_after p log).sheet.registers.chip ≡ p.sheet.registers.chip
chip_stays p log = by (after p log) where
  by : {n : ℕ} {q : Panel} → After p log n q → q.sheet.registers.chip ≡ p.sheet.registers.chip
  by (same c) = refl
  by (waiting half c f) = refl
  by (acted s span o k) = k

-- after any second half no half waits
pub second_clears : (p : Panel) (log : List ℕ) → waits p.half ≡ true → clocked (answer_to p log) ≡ true → (panel_after p log).half ≡ Empty
second_clears p log w = by (after p log) where
  first : is_first p ≡ false
  first = ap (λ b. not p.sheet.registers.eight && not b) w ∙ and-false (not p.sheet.registers.eight)

  by : {n : ℕ} {q : Panel} → After p log n q → clocked n ≡ true → q.half ≡ Empty
  by (same c) e = absurd (false≢true (sym c ∙ e))
  by (waiting half c f) e = f first
  by (acted s span o k) e = refl

pub not_both : (log : List ℕ) → is_transfer log ≡ true → is_reset log ≡ true → ⊥
not_both log a b = omega (arith, eqb-true (kind_of log) 1 a, eqb-true (kind_of log) 2 b)

-- a status read, at both widths, is not carried out
status_untaken : (p : Panel) (log : List ℕ) → is_transfer log ≡ true → is_status log ≡ true → carried_out (answer_to p log) ≡ false
status_untaken p log k s = by (answer_case p log) where
  by : {n : ℕ} → Case p log n → carried_out n ≡ false
  by (unsound a) = refl
  by (cut a b) = refl
  by (bad a b c) = refl
  by (back a b c d) = refl
  by (reset h a) = absurd (not_both log k a)
  by (torn h a b) = refl
  by (ignored h a) = refl
  by (nothing h a b) = refl
  by (held h a) = refl
  by (status h a b) = refl
  by (doubtful h a b d) = absurd (false≢true (sym b ∙ s))
  by (taken h a b d) = absurd (false≢true (sym b ∙ s))

-- and changes nothing but the last time and the half
pub status_keeps : (p : Panel) (log : List ℕ) → is_transfer log ≡ true → is_status log ≡ true →
    panel_after p log ≡ holding (panel_after p log).last (panel_after p log).half p
status_keeps p log k s = untaken_keeps p log (status_untaken p log k s)

-- records between two halves that set no time leave the first half waiting
pub between_keeps : (p : Panel) (fs : List (List ℕ)) → AllUnclocked p fs → panel_after_all p fs ≡ p
between_keeps p [] h = refl
between_keeps p (f ∷ fs) h = between_keeps (panel_after p f) fs h.1 ∙ unclocked_keeps p f h.0
