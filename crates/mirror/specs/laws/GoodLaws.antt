-- Whether the next read is good: each clause, by the case of a record's answer and the chip's own laws.
use Rattle.std.specs.Prelude.{ℕ, ◌*◌, ◌≤◌, ◌≡◌, refl, Bool, true, false, not, ◌&&◌, ◌||◌, List, eqb}
use Rattle.std.proofs.Common.{sym, ap, ◌∙◌, arith}
use Rattle.std.proofs.lemmas.Bool.{false≢true, eqb-false}
use Rattle.laws.specs.Pick.{pick}
use Rattle.framing.specs.Frame.{time_of, rs_of, rw_of, is_transfer, is_reset, cut_at, bad_at}
use Rattle.chip.specs.Step.{obeyed, written, passed}
use Rattle.chip.proofs.laws.GoodLaws.{low_doubtful, move_good, shift_leaves, function_doubtful, set_good, write_doubtful, read_good}
use Rattle.chip.specs.declared.sheet.Sheet.{Sheet}
use Rattle.mirror.specs.Answer.{carried_out}
use Rattle.mirror.specs.Panel.{sound_panel}
use Rattle.mirror.specs.Words.{is_good, nibble_of, high, here_of, status_of}
use Rattle.mirror.specs.Table.{waits, is_first, is_back, tears, ignores, is_status, is_doubtful, is_none, byte_of, byte_for}
use Rattle.mirror.specs.Case.{Acts, Case}
use Rattle.mirror.specs.Case.Case.{unsound, cut, bad, back, reset, torn, ignored, nothing, held, status, doubtful, taken}
use Rattle.mirror.specs.Answers.{answer_to, panel_after}
use Rattle.mirror.specs.Good.{CarriedOut, Instructed, Remembered, DataRead, read_there, ReadAnswered, GoodOrDoubtful}
use Rattle.mirror.specs.laws.CarriedLaws.{carried_sheet, reset_sheet}
use Rattle.mirror.specs.laws.RecordKeeps.{not_both, untaken_keeps}
use Rattle.mirror.specs.laws.TableLaws.{tabled}
use Rattle.mirror.specs.laws.TableCase.{case, answer_case, answer_number}
use Rattle.mirror.specs.declared.panel.Panel.{Panel}

module _ (p : Panel) (log : List ℕ) where
  -- by what was carried out
  carried_good : {rs reads : Bool} → CarriedOut p log rs reads →
      is_good (panel_after p log) ≡ (pick rs (pick reads (passed p.sheet) (written (byte_of p log) p.sheet)) (obeyed (byte_of p log) p.sheet)).registers.good
  carried_good c = ap (λ (s : Sheet). s.registers.good) (carried_sheet p log c)

  -- an instruction that is carried out is not 00h
  some_code : Instructed p log → 1 ≤ byte_of p log
  some_code c = by (answer_case p log) c.out
    where
      some : is_first p ≡ false → is_none p log ≡ false → 1 ≤ byte_of p log
      some f e =
          let z : eqb (byte_of p log) 0 ≡ false = sym (rw (f, c.rs_is, c.reads_is)) ∙ e in
          omega (arith, eqb-false (byte_of p log) 0 z)

      by : {n : ℕ} → Case p log n → carried_out n ≡ true → 1 ≤ byte_of p log
      by (unsound a) e = absurd (false≢true e)
      by (cut a b) e = absurd (false≢true e)
      by (bad a b d) e = absurd (false≢true e)
      by (back a b d f) e = absurd (false≢true e)
      by (reset h a) e = absurd (false≢true (sym c.transfer ∙ a))
      by (torn h a b) e = absurd (false≢true e)
      by (ignored h a) e = absurd (false≢true e)
      by (nothing h a b) e = absurd (false≢true e)
      by (held h a) e = absurd (false≢true e)
      by (status h a b) e = absurd (false≢true e)
      by (doubtful h a b d) e = some a h.some
      by (taken h a b d) e = some a h.some

  remembered : Remembered p log
  remembered =
      record {
        address_set = λ c l. carried_good c ∙ set_good (byte_of p log) p.sheet l;
        cursor_shift = λ c l h. carried_good c ∙ move_good (byte_of p log) p.sheet l h;
        read = λ c. carried_good c ∙ read_good p.sheet;
        fresh = λ chip r l s. refl;
        reset = λ o e. ap (λ (s : Sheet). s.registers.good) (reset_sheet p log o e);
        display_shift = λ c l h. carried_good c ∙ shift_leaves (byte_of p log) p.sheet l h;
        not_carried_out = λ o. ap is_good (untaken_keeps p log o);
        other_low = λ c h. carried_good c ∙ low_doubtful (byte_of p log) p.sheet (some_code c) h;
        other_high = λ c l h. carried_good c ∙ function_doubtful (byte_of p log) p.sheet l h;
        write = λ c. carried_good c ∙ write_doubtful (byte_of p log) p.sheet;
      }

  -- a first half comes where none waits
  none_waits : (eight waiting : Bool) → (not eight && not waiting) ≡ true → waiting ≡ false
  none_waits true waiting e = absurd (false≢true e)
  none_waits false true e = absurd (false≢true e)
  none_waits false false e = refl

  all_three : (a b c : Bool) → (a && b && not c) ≡ true → (a ≡ true) × (b ≡ true) × (c ≡ false)
  all_three true true true e = absurd (false≢true e)
  all_three true true false e = (refl, refl, refl)
  all_three true false c e = absurd (false≢true e)
  all_three false b c e = absurd (false≢true e)

  only : {n : ℕ} → Case p log n → n ≡ 11 → (rs_of log ≡ true) × (rw_of log ≡ true) × (is_good p ≡ false)
  only (unsound a) e = absurd (omega (arith, e))
  only (cut a b) e = absurd (omega (arith, e))
  only (bad a b c) e = absurd (omega (arith, e))
  only (back a b c d) e = absurd (omega (arith, e))
  only (reset h a) e = absurd (omega (arith, e))
  only (torn h a b) e = absurd (omega (arith, e))
  only (ignored h a) e = absurd (omega (arith, e))
  only (nothing h a b) e = absurd (omega (arith, e))
  only (held h a) e = absurd (omega (arith, e))
  only (status h a b) e = absurd (omega (arith, e))
  only (doubtful h a b d) e = all_three (rs_of log) (rw_of log) (is_good p) d
  only (taken h a b d) e = absurd (omega (arith, e))

  -- the number where neither 10, 8, 6, 5, a reset, 4, 3, 7, 1 nor 2 is due
  last_number : (s u b k r t i n f c d : Bool) → s ≡ true → u ≡ false → b ≡ false → k ≡ false → r ≡ false → t ≡ false → i ≡ false → n ≡ false → f ≡ false → c ≡ false →
      pick (not s) 10 (pick u 8 (pick b 6 (pick k 5 (pick r 0 (pick t 4 (pick i 3 (pick n 7 (pick f 1 (pick c 2 (pick d 11 0)))))))))) ≡ pick {A = ℕ} d 11 0
  last_number s u b k r t i n f c d hs hu hb hk hr ht hi hn hf hc = rw (hs, hu, hb, hk, hr, ht, hi, hn, hf, hc)

  turned : (good : Bool) → pick {A = ℕ} (not good) 11 0 ≡ pick good 0 11
  turned true = refl
  turned false = refl

  -- the byte of a record answered 0 or 1, with all that it looks at apart
  abbrev byte_by : Bool → Bool → Bool → Bool → Bool → Bool → ℕ → ℕ → ℕ → ℕ
  byte_by transfer reads waiting first state good nibble shown here =
      let source = pick state shown (pick good here 0) in
      pick (transfer && reads) (pick waiting nibble (pick first (high source) source)) 0

  zero_by : (transfer reads first : Bool) (nibble shown here : ℕ) → byte_by transfer reads false first false false nibble shown here ≡ 0
  zero_by true true true nibble shown here = refl
  zero_by true true false nibble shown here = refl
  zero_by true false first nibble shown here = refl
  zero_by false reads first nibble shown here = refl

  -- the number and the byte of a data read
  module _ (r : DataRead log) where
    no_status : is_status log ≡ false
    no_status = ap (λ b. b && not (rs_of log)) r.reads_is ∙ ap not r.rs_is

    doubts : is_doubtful p log ≡ not (is_good p)
    doubts = ap (λ b. b && rw_of log && not (is_good p)) r.rs_is ∙ ap (λ b. b && not (is_good p)) r.reads_is

    number_of : Acts p log → is_first p ≡ false → answer_to p log ≡ pick (is_good p) 0 11
    number_of a f =
        let h = a.paired.heard in
        answer_number p log
        ∙ last_number (sound_panel p) (cut_at log) (bad_at log) (is_back p log) (is_reset log) (tears p log) (ignores p log) (is_none p log) (is_first p) (is_status log) (is_doubtful p log)
        h.sound h.uncut h.good h.on_time a.paired.transfer a.paired.whole a.minded a.some f no_status
        ∙ ap (λ b. pick {A = ℕ} b 11 0) doubts ∙ turned (is_good p)

    -- the byte that document 01 gives, where it is good
    there : is_good p ≡ true →
        byte_by (is_transfer log) (rw_of log) (waits p.half) (is_first p) (is_status log) (is_good p) (nibble_of p.half * 16) (status_of (time_of log) p) (here_of p) ≡ read_there p
    there g =
        ap (λ b. byte_by b (rw_of log) (waits p.half) (is_first p) (is_status log) (is_good p) (nibble_of p.half * 16) (status_of (time_of log) p) (here_of p)) r.transfer
        ∙ ap (λ b. byte_by true b (waits p.half) (is_first p) (is_status log) (is_good p) (nibble_of p.half * 16) (status_of (time_of log) p) (here_of p)) r.reads_is
        ∙ ap (λ b. byte_by true true (waits p.half) (is_first p) b (is_good p) (nibble_of p.half * 16) (status_of (time_of log) p) (here_of p)) no_status
        ∙ ap (λ b. byte_by true true (waits p.half) (is_first p) false b (nibble_of p.half * 16) (status_of (time_of log) p) (here_of p)) g

    zero_byte : is_good p ≡ false → {n : ℕ} → Case p log n → byte_for n p log ≡ 0
    zero_byte g (unsound a) = refl
    zero_byte g (cut a b) = refl
    zero_byte g (bad a b c) = refl
    zero_byte g (back a b c d) = refl
    zero_byte g (reset h a) = absurd (not_both log r.transfer a)
    zero_byte g (torn h a b) = refl
    zero_byte g (ignored h a) = refl
    zero_byte g (nothing h a b) = refl
    zero_byte g (held h a) =
        let w = none_waits p.sheet.registers.eight (waits p.half) a in
        ap (λ b. byte_by (is_transfer log) (rw_of log) b (is_first p) (is_status log) (is_good p) (nibble_of p.half * 16) (status_of (time_of log) p) (here_of p)) w
        ∙ ap (λ b. byte_by (is_transfer log) (rw_of log) false (is_first p) b (is_good p) (nibble_of p.half * 16) (status_of (time_of log) p) (here_of p)) no_status
        ∙ ap (λ b. byte_by (is_transfer log) (rw_of log) false (is_first p) false b (nibble_of p.half * 16) (status_of (time_of log) p) (here_of p)) g
        ∙ zero_by (is_transfer log) (rw_of log) (is_first p) (nibble_of p.half * 16) (status_of (time_of log) p) (here_of p)
    zero_byte g (status h a b) = absurd (false≢true (sym no_status ∙ b))
    zero_byte g (doubtful h a b d) = refl
    zero_byte g (taken h a b d) = absurd (false≢true (sym d ∙ doubts ∙ ap not g))

    good_byte : is_good p ≡ true → {n : ℕ} → Case p log n → (eqb n 0 || eqb n 1) ≡ true → byte_for n p log ≡ read_there p
    good_byte g (unsound a) e = absurd (false≢true e)
    good_byte g (cut a b) e = absurd (false≢true e)
    good_byte g (bad a b c) e = absurd (false≢true e)
    good_byte g (back a b c d) e = absurd (false≢true e)
    good_byte g (reset h a) e = absurd (not_both log r.transfer a)
    good_byte g (torn h a b) e = absurd (false≢true e)
    good_byte g (ignored h a) e = absurd (false≢true e)
    good_byte g (nothing h a b) e = absurd (false≢true e)
    good_byte g (held h a) e = there g
    good_byte g (status h a b) e = absurd (false≢true e)
    good_byte g (doubtful h a b d) e = absurd (false≢true e)
    good_byte g (taken h a b d) e = there g

  answered : ReadAnswered p log
  answered =
      record {
        number = number_of;
        only = only (answer_case p log);
        zero = λ r g. (tabled p log).byte ∙ zero_byte r g (case p log);
        byte = λ r g e. (tabled p log).byte ∙ good_byte r g (case p log) (ap (λ n. eqb n 0 || eqb n 1) (sym (answer_number p log)) ∙ e);
      }

-- THE CLAUSES OF THE WISH, of every panel and record
pub good_or_doubtful : GoodOrDoubtful
good_or_doubtful = record { remembered = remembered; answered = answered }
