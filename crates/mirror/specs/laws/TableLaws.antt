-- One record is answered as the table says.
use Rattle.std.specs.Prelude.{ℕ, ◌≡◌, Bool, true, false, not, ◌&&◌, ◌||◌, List, eqb}
use Rattle.std.proofs.Math.Path.{refl}
use Rattle.std.proofs.Common.{sym, ap, ◌∙◌}
use Rattle.std.specs.Bool.{beq}
use Rattle.std.proofs.lemmas.Bool.{false≢true}
use Rattle.laws.specs.Pick.{pick}
use Rattle.framing.specs.Frame.{kind_of, time_of, data_of, rs_of, rw_of, is_reset, record_size, cut_at, bad_at, frame_of}
use Rattle.framing.specs.laws.FrameLaws.{Seen, seen}
use Rattle.framing.specs.laws.FrameLaws.Seen.{cut, bad, transfer, reset}
use Rattle.framing.specs.declared.frame.Frame.{Frame}
use Rattle.chip.specs.Sheet.{fresh_sheet, on_registers, with_function, with_good}
use Rattle.mirror.specs.Panel.{half_fits, sound_panel}
use Rattle.mirror.specs.engine.Way.{Way, whole_of, first_of, second_of, way_of}
use Rattle.mirror.specs.Words.{joined_of, free, is_good, done}
use Rattle.mirror.specs.engine.Record.{recorded, went, transferred, answered}
use Rattle.mirror.specs.Table.{waits, is_first, differs, tears, is_status, busy_at, ignores, is_none, is_back, transfer_for, heard_for, number_for, is_doubtful, byte_for, panel_for, used_for, Tabled, row_of, whole_at, row_with, row_for, record_of}
use Rattle.mirror.specs.laws.SoundParts.{Sound, parts}
use Rattle.mirror.specs.Answer.{number_of, answer_of, bus_byte, Paper, paper}
use Rattle.mirror.specs.Promise.{Records}
use Rattle.mirror.specs.declared.answer.Answer.{Answer}
use Rattle.mirror.specs.declared.answer.Answer.TheVariants as say
use Rattle.mirror.specs.declared.half.Half.{Half}
use Rattle.mirror.specs.declared.half.Half.TheVariants.{Empty, Ignored, Waiting}
use Rattle.mirror.specs.declared.panel.Panel.{Panel}
use Rattle.mirror.specs.declared.record.Recorded.{Recorded}

-- `transfer_for` with all that it looks at apart, so that each can be generalised
abbrev number_by : Bool → Half → Bool → Bool → Bool → Bool → ℕ → ℕ
number_by eight half free good rs reads byte =
    let first = not eight && not (waits half) in
    pick (differs half rs reads) 4
    (pick (busy_at half (not (reads && not rs) && not free)) 3
    (pick (not first && not rs && not reads && eqb byte 0) 7 (pick first 1 (pick (reads && not rs) 2 (pick (rs && reads && not good) 11 0)))))

-- a row whose number and byte look at no half at width 8
record RowAt (n : ℕ) (p : Panel) (log : List ℕ) (r : Recorded) : Type 0 where
  paper : paper r.answer r.byte ≡ record { number = n; byte = r.byte }
  byte : r.byte ≡ byte_for n (whole_at p) log
  panel : r.panel ≡ panel_for n p log
  used : r.used ≡ used_for n log

-- a panel with its width, its half and whether its next read is good set anew
abbrev at : Bool → Half → Bool → Panel → Panel
at eight half good p =
    record {
      sheet = on_registers (λ r. with_good good (with_function eight r.function r)) p.sheet;
      busy = p.busy;
      half = half;
      times = p.times;
      last = p.last;
    }

-- a transfer that is neither cut nor bad, with its RS and R/W
record Good (log : List ℕ) (rs reads : Bool) : Type 0 where
  kind : kind_of log ≡ 1
  size : 14 ≡ record_size log
  rs_is : rs_of log ≡ rs
  reads_is : rw_of log ≡ reads

-- the row of a way
abbrev Goes : ℕ → Way → ℕ → Panel → List ℕ → Type 0
Goes n v byte p log = RowAt n p log (went v (time_of log) (rs_of log) (rw_of log) (data_of log) byte p)

module _ (p : Panel) (log : List ℕ) where
  row : {n : ℕ} {q : Panel} {r : Recorded} →
      paper r.answer r.byte ≡ record { number = n; byte = r.byte } → r.byte ≡ byte_for n (whole_at q) log → r.panel ≡ panel_for n q log →
      r.used ≡ used_for n log → RowAt n q log r
  row a b c d = record { paper = a; byte = b; panel = c; used = d }

  -- an instruction write that is complete
  code : (eight : Bool) (half : Half) (good : Bool) → Good log false false → (b : Bool) →
      Goes (pick b 7 0) (pick b Way.Nothing Way.Obey) (joined_of eight half (data_of log)) (at eight half good p) log
  code eight half good g true = row refl refl refl g.size
  code eight half good g false = row refl (rw (g.kind, g.reads_is)) (rw (g.kind, g.rs_is)) g.size

  whole : (half : Half) (free good reads rs : Bool) → Good log rs reads →
      let byte = data_of log in Goes (number_by true Empty free good rs reads byte) (whole_of free rs reads byte) byte (at true half good p) log
  whole half free good true false g = row refl (rw (g.kind, g.rs_is, g.reads_is)) refl g.size
  whole half false good true true g = row refl refl refl g.size
  whole half false good false rs g = row refl refl refl g.size
  whole half true true true true g = row refl (rw (g.kind, g.rs_is, g.reads_is)) (rw (g.kind, g.rs_is, g.reads_is)) g.size
  whole half true false true true g = row refl refl (rw (g.kind, g.rs_is, g.reads_is)) g.size
  whole half true good false true g = row refl (rw (g.kind, g.reads_is)) (rw (g.kind, g.rs_is, g.reads_is)) g.size
  whole half true good false false g = code true half good g (eqb (data_of log) 0)

  first : (byte : ℕ) (free good reads rs : Bool) → Good log rs reads →
      Goes (number_by false Empty free good rs reads byte) (first_of free rs reads) byte (at false Empty good p) log
  first byte free good true false g = row refl (rw (g.kind, g.rs_is, g.reads_is)) (rw (g.rs_is, g.reads_is)) g.size
  first byte false good true true g = row refl refl refl g.size
  first byte false good false rs g = row refl refl refl g.size
  first byte true good true true g = row refl (rw (g.kind, g.rs_is, g.reads_is)) (rw (g.rs_is, g.reads_is)) g.size
  first byte true good false rs g = row refl (rw (g.kind, g.reads_is)) (rw g.reads_is) g.size

  second : (r w : Bool) (nibble : ℕ) (good reads rs : Bool) → Good log rs reads → let h = Waiting r w nibble in let byte = joined_of false h (data_of log) in
      Goes (pick (not rs && not reads && eqb byte 0) 7 (pick (reads && not rs) 2 (pick (rs && reads && not good) 11 0))) (second_of rs reads byte) byte (at false h good p) log
  second r w nibble good true false g = row refl (rw (g.kind, g.reads_is)) refl g.size
  second r w nibble true true true g = row refl (rw (g.kind, g.reads_is)) (rw (g.kind, g.rs_is, g.reads_is)) g.size
  second r w nibble false true true g = row refl refl (rw (g.kind, g.rs_is, g.reads_is)) g.size
  second r w nibble good false true g = row refl (rw (g.kind, g.reads_is)) (rw (g.kind, g.rs_is, g.reads_is)) g.size
  second r w nibble good false false g = code false (Waiting r w nibble) good g (eqb (joined_of false (Waiting r w nibble) (data_of log)) 0)

  torn : (h : Half) (good : Bool) (byte : ℕ) (a b : Bool) {n : ℕ} (v : Way) → 14 ≡ record_size log → Goes n v byte (at false h good p) log →
      Goes (pick (a || b) 4 n) (pick a Way.Torn (pick b Way.Torn v)) byte (at false h good p) log
  torn h good byte true b v s g = row refl refl refl s
  torn h good byte false true v s g = row refl refl refl s
  torn h good byte false false v s g = g

  goes : (eight : Bool) (half : Half) (free good reads rs : Bool) → Good log rs reads →
      let byte = joined_of eight half (data_of log) in
      let none = pick eight Empty half in
      Goes (number_by eight none free good rs reads (joined_of eight none (data_of log))) (way_of eight half free rs reads byte) byte (at eight half good p) log
  goes true half free good reads rs g = whole half free good reads rs g
  goes false Empty free good reads rs g = first (joined_of false Empty (data_of log)) free good reads rs g
  goes false (Ignored r w) free good reads rs g =
      torn (Ignored r w) good (joined_of false (Ignored r w) (data_of log)) (not (beq r rs)) (not (beq w reads)) Way.Ignored g.size
      (row refl refl refl g.size)
  goes false (Waiting r w nibble) free good reads rs g =
      let byte = joined_of false (Waiting r w nibble) (data_of log) in
      torn (Waiting r w nibble) good byte (not (beq r rs)) (not (beq w reads)) (second_of rs reads byte) g.size
      (second r w nibble good reads rs g)

module _ (p : Panel) (log : List ℕ) where
  transfer_row : kind_of log ≡ 1 → 14 ≡ record_size log → RowAt (transfer_for (whole_at p) log) p log (transferred (time_of log) (rs_of log) (rw_of log) (data_of log) p)
  unfolding transferred
  transfer_row k s =
      goes p log p.sheet.registers.eight p.half (free (time_of log) p) (is_good p) (rw_of log) (rs_of log)
      (record { kind = k; size = s; rs_is = refl; reads_is = refl })

  unless_back : (b : Bool) {n size : ℕ} (r : Recorded) → size ≡ record_size log → RowAt n p log r → RowAt (pick b 5 n) p log (pick b (recorded p say.Back 0 size) r)
  unless_back true r s h = row p log refl refl refl s
  unless_back false r s h = h

  frame_row : (f : Frame) → Seen log f → RowAt (heard_for (whole_at p) log) p log (answered f p)
  frame_row f (cut u) = rw u (row p log refl refl refl refl)
  frame_row f (bad g b) = rw (g.uncut, b) (row p log refl refl refl g.size)
  frame_row f (transfer g k b t) =
      rw (g.uncut, b, k)
      (unless_back (is_back p log) (transferred (time_of log) (rs_of log) (rw_of log) (data_of log) p) g.size (transfer_row k g.size))
  frame_row f (reset g k b t) =
      rw (g.uncut, b, k)
      (unless_back (is_back p log) (recorded (done (time_of log) (fresh_sheet p.sheet.registers.chip) p.times.reset p) say.Taken 0 12) g.size
      (row p log refl (rw k) (rw k) g.size))

-- the number of an answer tells it
pub named : (a : Answer) → answer_of (number_of a) ≡ a
named say.Taken = refl
named say.Doubtful = refl
named say.Held = refl
named say.Status = refl
named say.Ignored = refl
named say.Torn = refl
named say.Back = refl
named say.Bad = refl
named say.Nothing = refl
named say.Cut = refl
named say.Unsound = refl

-- a row of the table says all of a record
row_is : {n : ℕ} {p : Panel} {log : List ℕ} (r : Recorded) → RowAt n p log r →
    r ≡ record { panel = panel_for n p log; answer = answer_of n; byte = byte_for n (whole_at p) log; used = used_for n log }
row_is {n} {p} {log} r h =
    let a : r.answer ≡ answer_of n = sym (named r.answer) ∙ ap (λ (x : Paper). answer_of x.number) h.paper in
    ap (λ x. record { panel = x; answer = r.answer; byte = r.byte; used = r.used }) h.panel
    ∙ ap (λ x. record { panel = panel_for n p log; answer = x; byte = r.byte; used = r.used }) a
    ∙ ap (λ x. record { panel = panel_for n p log; answer = answer_of n; byte = x; used = r.used }) h.byte
    ∙ ap (λ x. record { panel = panel_for n p log; answer = answer_of n; byte = byte_for n (whole_at p) log; used = x }) h.used

-- WHAT THE ENGINE MAKES OF A RECORD, of any panel, is the row without the test of the panel
pub answered_row : (p : Panel) (log : List ℕ) → answered (frame_of log) p ≡ row_for p log
unfolding row_for
answered_row p log = row_is (answered (frame_of log) p) (frame_row p log (frame_of log) (seen log))

-- no half waits at width 8 in a sound panel
no_half : (eight : Bool) (half : Half) → half_fits eight half ≡ true → pick eight Empty half ≡ half
no_half true Empty f = refl
no_half true (Ignored r w) f = absurd (false≢true f)
no_half true (Waiting r w nibble) f = absurd (false≢true f)
no_half false half f = refl

whole_is : (p : Panel) → Sound p → whole_at p ≡ p
whole_is p h =
    ap (λ x. record { sheet = p.sheet; busy = p.busy; half = x; times = p.times; last = p.last }) (no_half p.sheet.registers.eight p.half h.half)

-- so of a sound panel it is the table's
pub row_sound : (p : Panel) (log : List ℕ) → sound_panel p ≡ true → row_for p log ≡ record_of p log
unfolding row_for record_of
row_sound p log e =
    ap (λ q. row_with q p log) (whole_is p (parts p e)) ∙ ap (λ b. row_of (pick (not b) 10 (heard_for p log)) p log) (sym e)

pub answered_sound : (p : Panel) (log : List ℕ) → sound_panel p ≡ true → answered (frame_of log) p ≡ record_of p log
answered_sound p log e = answered_row p log ∙ row_sound p log e

-- an unsound one is refused
pub refused_unsound : (p : Panel) (log : List ℕ) → sound_panel p ≡ false → record_of p log ≡ recorded p say.Unsound 0 0
unfolding record_of
refused_unsound p log e = ap (λ b. row_of (pick (not b) 10 (heard_for p log)) p log) e

-- one record: the answer's number, the bus byte, the panel afterwards and the bytes used are the table's
numbered : (p : Panel) (log : List ℕ) (b : Bool) → number_of (answer_of (pick b 10 (heard_for p log))) ≡ pick b 10 (heard_for p log)
numbered p log true = refl
numbered p log false = by (cut_at log) (bad_at log) (is_back p log) (is_reset log) (tears p log) (ignores p log) (is_none p log) (is_first p) (is_status log) (is_doubtful p log)
  where
    by : (a b c d e f g h i j : Bool) →
        let n : ℕ = pick a 8 (pick b 6 (pick c 5 (pick d 0 (pick e 4 (pick f 3 (pick g 7 (pick h 1 (pick i 2 (pick j 11 0))))))))) in number_of (answer_of n) ≡ n
    by true b c d e f g h i j = refl
    by false true c d e f g h i j = refl
    by false false true d e f g h i j = refl
    by false false false true e f g h i j = refl
    by false false false false true f g h i j = refl
    by false false false false false true g h i j = refl
    by false false false false false false true h i j = refl
    by false false false false false false false true i j = refl
    by false false false false false false false false true j = refl
    by false false false false false false false false false true = refl
    by false false false false false false false false false false = refl

carries : (a : Answer) (n : ℕ) (p : Panel) (log : List ℕ) → answer_of n ≡ a → number_of (answer_of n) ≡ n → bus_byte a (byte_for n p log) ≡ byte_for n p log
carries say.Taken n p log e k = refl
carries say.Doubtful n p log e k = ap (λ x. byte_for x p log) (sym (ap number_of e) ∙ k)
carries say.Held n p log e k = refl
carries say.Status n p log e k = refl
carries say.Ignored n p log e k = ap (λ x. byte_for x p log) (sym (ap number_of e) ∙ k)
carries say.Torn n p log e k = ap (λ x. byte_for x p log) (sym (ap number_of e) ∙ k)
carries say.Back n p log e k = ap (λ x. byte_for x p log) (sym (ap number_of e) ∙ k)
carries say.Bad n p log e k = ap (λ x. byte_for x p log) (sym (ap number_of e) ∙ k)
carries say.Nothing n p log e k = ap (λ x. byte_for x p log) (sym (ap number_of e) ∙ k)
carries say.Cut n p log e k = ap (λ x. byte_for x p log) (sym (ap number_of e) ∙ k)
carries say.Unsound n p log e k = ap (λ x. byte_for x p log) (sym (ap number_of e) ∙ k)

pub tabled : (p : Panel) (log : List ℕ) → Tabled p log (record_of p log)
unfolding record_of
tabled p log =
    let n = number_for p log in
    let k = numbered p log (not (sound_panel p)) in
    record {
      paper =
          ap (λ x. record { number = x; byte = bus_byte (answer_of n) (byte_for n p log) }) k
          ∙ ap (λ x. record { number = n; byte = x }) (carries (answer_of n) n p log refl k);
      byte = refl;
      panel = refl;
      used = refl;
    }

-- so what one record comes to is all that `record` promises
pub records : (p : Panel) (log : List ℕ) (r : Recorded) → r ≡ record_of p log → Records p log r
records p log r e = record { is = e; tabled = rw e (tabled p log) }
