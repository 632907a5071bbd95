-- Ignored exactly when busy: the proof, by what an open first half has in common with the half that waits.
use Rattle.std.specs.Prelude.{ℕ, ◌+◌, ◌*◌, ◌%◌, ◌/◌, ◌≡◌, refl, Bool, true, false, not, ◌&&◌, ◌||◌, List, [], ◌∷◌, ltb, leb, eqb}
use Rattle.std.proofs.Common.{sym, ap, subst, ◌∙◌, mod-eq_of_lt, ltb-true, leb-true, leb-false, lt-ltb, le-ltb}
use Rattle.std.specs.Bool.{beq}
use Rattle.std.proofs.lemmas.Bool.{false≢true, not-true}
use Rattle.laws.specs.Pick.{pick}
use Rattle.framing.specs.Frame.{time_of, data_of, rs_of, rw_of, is_transfer, cut_at, bad_at}
use Rattle.framing.specs.laws.FrontLaws.{or_left, or_right}
use Rattle.framing.specs.Frames.{frames}
use Rattle.chip.specs.Step.{obeyed, written, passed}
use Rattle.chip.proofs.laws.WidthLaws.{obeyed_width, written_width}
use Rattle.mirror.specs.Panel.{fresh_panel, half_fits, sound_panel}
use Rattle.mirror.specs.Words.{joined_of, free}
use Rattle.mirror.specs.laws.SoundParts.{parts, whole}
use Rattle.mirror.specs.Table.{waits, is_first, differs, is_status, busy_at, byte_of, source_of, held_half, panel_for}
use Rattle.mirror.specs.Answers.{answer_to, panel_after}
use Rattle.mirror.specs.laws.TableCase.{answer_case, each_row}
use Rattle.mirror.specs.Case.{Acts, Case}
use Rattle.mirror.specs.Case.Case.{unsound, cut, bad, back, reset, torn, ignored, nothing, held, status, doubtful, taken}
use Rattle.mirror.specs.laws.RecordKeeps.{not_both}
use Rattle.mirror.specs.laws.SoundLaws.{Lasts, record_lasts}
use Rattle.mirror.specs.laws.TypedLaws.{AllData, frames_data, typed_lasts}
use Rattle.mirror.specs.Busy.{Noted, noted_as, noted_from, Open, begun_by, byte_by, width_by, width_after, opens, open_after, was_busy, Decided, matches, is_usable, AllDecided, IgnoredExactlyWhenBusy}
use Rattle.mirror.specs.Busy.Open.{none, first}
use Rattle.mirror.specs.declared.half.Half.{Half}
use Rattle.mirror.specs.declared.half.Half.TheVariants.{Empty, Ignored, Waiting}
use Rattle.mirror.specs.declared.panel.Panel.{Panel}

-- tests on bits and times
equal_bits : (a b : Bool) → not (beq a b) ≡ false → a ≡ b
equal_bits true true e = refl
equal_bits true false e = absurd (false≢true (sym e))
equal_bits false true e = absurd (false≢true (sym e))
equal_bits false false e = refl

and_first : (a b : Bool) → (a && b) ≡ true → a ≡ true
and_first true b e = refl
and_first false b e = absurd (false≢true e)

and_second : (a b : Bool) → (a && b) ≡ true → b ≡ true
and_second true b e = e
and_second false b e = absurd (false≢true e)

not_free : (time end : ℕ) → not (leb end time) ≡ ltb time end
not_free time end = by (leb end time) refl where
  by : (b : Bool) → leb end time ≡ b → not b ≡ ltb time end
  by true e = sym (le-ltb time end (leb-true end time e))
  by false e = sym (lt-ltb time end (leb-false end time e))

untorn : (r w : Bool) {log : List ℕ} (e : Noted) → e.bytes ≡ log → (beq r (rs_of e.bytes) && beq w (rw_of e.bytes)) ≡ true →
    (not (beq r (rs_of log)) || not (beq w (rw_of log))) ≡ false
untorn r w e i m =
    let x = beq r (rs_of e.bytes) in
    let y = beq w (rw_of e.bytes) in
    ap (λ s. not (beq r (rs_of s)) || not (beq w (rw_of s))) (sym i) ∙ ap (λ b. not b || not y) (and_first x y m) ∙ ap not (and_second x y m)

-- what makes a transfer usable, part by part
record Fit (o : Open) (e : Noted) : Type 0 where
  uncut : cut_at e.bytes ≡ false
  good : bad_at e.bytes ≡ false
  transfer : is_transfer e.bytes ≡ true
  in_time : ltb (time_of e.bytes) e.last ≡ false
  unlike : is_status e.bytes ≡ false
  pair : matches o e ≡ true

fits : (o : Open) (e : Noted) → is_usable o e ≡ true → Fit o e
fits o e u =
    let a = not (cut_at e.bytes) in
    let b = not (bad_at e.bytes) in
    let c = is_transfer e.bytes in
    let d = not (ltb (time_of e.bytes) e.last) in
    let s = not (is_status e.bytes) in
    let u₁ = and_first (a && b && c && d && s) (matches o e) u in
    let u₂ = and_first (a && b && c && d) s u₁ in
    let u₃ = and_first (a && b && c) d u₂ in
    let u₄ = and_first (a && b) c u₃ in
    record {
      uncut = not-true (cut_at e.bytes) (and_first a b u₄);
      good = not-true (bad_at e.bytes) (and_second a b u₄);
      transfer = and_second (a && b) c u₃;
      in_time = not-true (ltb (time_of e.bytes) e.last) (and_second (a && b && c) d u₂);
      unlike = not-true (is_status e.bytes) (and_second (a && b && c && d) s u₁);
      pair = and_second (a && b && c && d && s) (matches o e) u;
    }

-- an open first half agrees with the half that waits
pub data Agrees : Open → Half → Type 0 where
  closed : Agrees none Empty
  deaf : {f : Noted} → eqb f.number 3 ≡ true → was_busy f ≡ true → Agrees (first f) (Ignored (rs_of f.bytes) (rw_of f.bytes))
  kept : {f : Noted} {nibble : ℕ} →
      eqb f.number 3 ≡ false → (is_status f.bytes ≡ false → was_busy f ≡ false) → (rw_of f.bytes ≡ false → nibble ≡ data_of f.bytes / 16) →
      Agrees (first f) (Waiting (rs_of f.bytes) (rw_of f.bytes) nibble)

module _ (p : Panel) (log : List ℕ) where
  -- the entry if it were answered with a number
  abbrev entry : ℕ → Noted
  entry n = record { bytes = log; number = n; until = p.busy; last = p.last }

  -- a complete write or data read is decided as it began
  judged : (n : ℕ) (deafened : Bool) → eqb n 3 ≡ deafened → is_status log ≡ false → (o : Open) {half : Half} → Agrees o half →
      differs half (rs_of log) (rw_of log) ≡ false → busy_at half (not (is_status log) && not (free (time_of log) p)) ≡ deafened →
      Decided (begun_by o (entry n)) (entry n)
  judged n x e s none closed d b =
      let t = e ∙ sym b ∙ ap (λ c. not c && not (free (time_of log) p)) s ∙ not_free (time_of log) p.busy in
      record { own = t; began = t }
  judged n x e s (first f) (deaf three busy) d b = record { own = e ∙ sym b ∙ sym busy; began = three ∙ sym busy }
  judged n x e s (first f) (kept three busy nib) d b =
      let r = rs_of f.bytes in
      let w = rw_of f.bytes in
      let i = equal_bits r (rs_of log) (or_left (not (beq r (rs_of log))) (not (beq w (rw_of log))) d) in
      let j = equal_bits w (rw_of log) (or_right (not (beq r (rs_of log))) (not (beq w (rw_of log))) d) in
      let idle = busy (ap (λ c. c && not r) j ∙ ap (λ c. rw_of log && not c) i ∙ s) in
      record { own = e ∙ sym b ∙ sym idle; began = three ∙ sym idle }

  -- a second half that matches does not tear the pair
  whole_pair : (o : Open) (e : Noted) {half : Half} → Agrees o half → e.bytes ≡ log → matches o e ≡ true → differs half (rs_of log) (rw_of log) ≡ false
  whole_pair none e closed i m = refl
  whole_pair (first f) e (deaf three busy) i m = untorn (rs_of f.bytes) (rw_of f.bytes) e i m
  whole_pair (first f) e (kept three busy nib) i m = untorn (rs_of f.bytes) (rw_of f.bytes) e i m

  -- a usable transfer is judged whatever it is answered
  decided : (o : Open) → Agrees o p.half → sound_panel p ≡ true → is_usable o (noted_as p log) ≡ true → Decided (begun_by o (noted_as p log)) (noted_as p log)
  decided o h sound u = by (answer_to p log) (answer_case p log)
    where
      fit : Fit o (noted_as p log)
      fit = fits o (noted_as p log) u

      whole : differs p.half (rs_of log) (rw_of log) ≡ false
      whole = whole_pair o (noted_as p log) h refl fit.pair

      by : (n : ℕ) → Case p log n → Decided (begun_by o (entry n)) (entry n)
      by n (unsound a) = absurd (false≢true (sym a ∙ sound))
      by n (cut a b) = absurd (false≢true (sym fit.uncut ∙ b))
      by n (bad a b c) = absurd (false≢true (sym fit.good ∙ c))
      by n (back a b c d) = absurd (false≢true (sym fit.in_time ∙ d))
      by n (reset c a) = absurd (not_both log fit.transfer a)
      by n (torn c a b) = absurd (false≢true (sym whole ∙ b))
      by n (ignored c a) = judged 3 true refl fit.unlike o h whole a
      by n (nothing c a b) = judged 7 false refl fit.unlike o h whole a
      by n (held c a) = judged 1 false refl fit.unlike o h whole c.minded
      by n (status c a b) = absurd (false≢true (sym fit.unlike ∙ b))
      by n (doubtful c a b d) = judged 11 false refl fit.unlike o h whole c.minded
      by n (taken c a b d) = judged 0 false refl fit.unlike o h whole c.minded

  -- and the half that waits afterwards agrees with the one that is open
  ended : (eight : Bool) (o : Open) (n : ℕ) → (eqb n 1 || eqb n 3) ≡ false → Agrees (pick (opens eight o (entry n)) (first (entry n)) none) Empty
  ended eight none n e = subst (λ b. Agrees (pick (b && not eight) (first (entry n)) none) Empty) (sym e) closed
  ended eight (first f) n e = closed

  missed : (eight : Bool) (o : Open) {half : Half} → Agrees o half → busy_at half (not (is_status log) && not (free (time_of log) p)) ≡ true →
      Agrees (pick (opens eight o (entry 3)) (first (entry 3)) none) (pick (not eight && not (waits half)) (Ignored (rs_of log) (rw_of log)) Empty)
  missed true none closed b = closed
  missed false none closed b =
      deaf {f = entry 3} refl (sym (not_free (time_of log) p.busy) ∙ and_second (not (is_status log)) (not (free (time_of log) p)) b)
  missed true (first f) (deaf three busy) b = closed
  missed false (first f) (deaf three busy) b = closed
  missed eight (first f) (kept three busy nib) b = absurd (false≢true b)

  begun : (eight : Bool) (o : Open) {half : Half} → Agrees o half → (not eight && not (waits half)) ≡ true →
      busy_at half (not (is_status log) && not (free (time_of log) p)) ≡ false →
      Agrees (pick (opens eight o (entry 1)) (first (entry 1)) none) (held_half p log)
  begun true o h f b = absurd (false≢true f)
  begun false none closed f b =
      kept {f = entry 1} refl
      (λ s. sym (not_free (time_of log) p.busy) ∙ sym (ap (λ c. not c && not (free (time_of log) p)) s) ∙ b)
      (λ w. ap (λ c. pick c (source_of p log % 16) (data_of log / 16)) w)
  begun false (first e) (deaf three busy) f b = absurd (false≢true f)
  begun false (first e) (kept three busy nib) f b = absurd (false≢true f)

  pub agrees : (o : Open) → Agrees o p.half → Agrees (open_after p.sheet.registers.eight o (noted_as p log)) (panel_after p log).half
  agrees o h = each_row p log (λ n q. Agrees (open_after eight o (entry n)) q.half) by where
    eight : Bool
    eight = p.sheet.registers.eight

    by : (n : ℕ) → Case p log n → Agrees (open_after eight o (entry n)) (panel_for n p log).half
    by n (unsound a) = h
    by n (cut a b) = h
    by n (bad a b c) = h
    by n (back a b c d) = h
    by n (reset c a) = ended eight o 0 refl
    by n (torn c a b) = ended eight o 4 refl
    by n (ignored c a) = missed eight o h a
    by n (nothing c a b) = ended eight o 7 refl
    by n (held c a) = begun eight o h a c.minded
    by n (status c a b) = ended eight o 2 refl
    by n (doubtful c a b d) = ended eight o 11 refl
    by n (taken c a b d) = ended eight o 0 refl

  -- the byte that is joined of the log is the one that the chip joins
  byte_same : (eight : Bool) (o : Open) {half : Half} → Agrees o half → half_fits eight half ≡ true → (not eight && not (waits half)) ≡ false →
      busy_at half (not (is_status log) && not (free (time_of log) p)) ≡ false → differs half (rs_of log) (rw_of log) ≡ false → rw_of log ≡ false →
      (n : ℕ) → byte_by o (entry n) ≡ joined_of eight half (data_of log)
  byte_same true none closed fits f b d w n = refl
  byte_same false none closed fits f b d w n = absurd (false≢true (sym f))
  byte_same eight (first e) (deaf three busy) fits f b d w n = absurd (false≢true (sym b))
  byte_same true (first e) (kept three busy nib) fits f b d w n = absurd (false≢true fits)
  byte_same false (first e) (kept {nibble = x} three busy nib) fits f b d w n =
      let r = rs_of e.bytes in
      let v = rw_of e.bytes in
      let j = equal_bits v (rw_of log) (or_right (not (beq r (rs_of log))) (not (beq v (rw_of log))) d) in
      ap (λ y. y * 16 + data_of log / 16) (sym (nib (j ∙ w)) ∙ sym (mod-eq_of_lt (ltb-true x 16 fits)))

  -- and so is the width
  pub width : (o : Open) → Agrees o p.half → width_after p.sheet.registers.eight o (noted_as p log) ≡ (panel_after p log).sheet.registers.eight
  width o h = each_row p log (λ n q. width_after eight o (entry n) ≡ q.sheet.registers.eight) by where
    eight : Bool
    eight = p.sheet.registers.eight

    step : (n : ℕ) (rs reads : Bool) → (reads && not rs) ≡ false → (reads ≡ false → byte_by o (entry n) ≡ byte_of p log) →
        pick (rs || reads) eight (width_by (byte_by o (entry n)) eight) ≡
        (pick rs (pick reads (passed p.sheet) (written (byte_of p log) p.sheet)) (obeyed (byte_of p log) p.sheet)).registers.eight
    step n true true s same = refl
    step n true false s same = sym (written_width (byte_of p log) p.sheet)
    step n false true s same = absurd (false≢true (sym s))
    step n false false s same = ap (λ x. width_by x eight) (same refl) ∙ sym (obeyed_width (byte_of p log) p.sheet)

    same : (n : ℕ) → Acts p log → is_first p ≡ false → is_status log ≡ false →
        pick (rs_of log || rw_of log) eight (width_by (byte_by o (entry n)) eight) ≡
        (pick (rs_of log) (pick (rw_of log) (passed p.sheet) (written (byte_of p log) p.sheet)) (obeyed (byte_of p log) p.sheet)).registers.eight
    same n c a b =
        step n (rs_of log) (rw_of log) b (λ w. byte_same eight o h (parts p c.paired.heard.sound).half a c.minded c.paired.whole w n)

    by : (n : ℕ) → Case p log n → width_after eight o (entry n) ≡ (panel_for n p log).sheet.registers.eight
    by n (unsound a) = refl
    by n (cut a b) = refl
    by n (bad a b c) = refl
    by n (back a b c d) = refl
    by n (reset c a) = rw a
    by n (torn c a b) = refl
    by n (ignored c a) = refl
    by n (nothing c a b) = refl
    by n (held c a) = refl
    by n (status c a b) = refl
    by n (doubtful c a b d) = rw c.paired.transfer (same 11 c a b)
    by n (taken c a b d) = rw c.paired.transfer (same 0 c a b)

-- records that follow each other
all_decided : (fs : List (List ℕ)) (p : Panel) (o : Open) → Agrees o p.half → Lasts p → AllData fs → AllDecided p.sheet.registers.eight o (noted_from p fs)
all_decided [] p o h l d = tt
all_decided (f ∷ fs) p o h l d =
    let e = noted_as p f in
    let eight = p.sheet.registers.eight in (
      decided p f o h (whole p l.sound),
      subst (λ b. AllDecided b (open_after eight o e) (noted_from (panel_after p f) fs)) (sym (width p f o h))
          (all_decided fs (panel_after p f) (open_after eight o e) (agrees p f o h) (record_lasts p f d.0 l) d.1),
    )

-- every log from a fresh panel
pub ignored_exactly_when_busy : IgnoredExactlyWhenBusy
ignored_exactly_when_busy chip r l s log t =
    all_decided (frames log) (fresh_panel chip r l s) none closed (typed_lasts t) (frames_data log t.bytes)
