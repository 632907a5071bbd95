-- Laws of a run: what one turn of its loop comes to.
use Rattle.std.specs.Prelude.{ℕ, ◌+◌, ◌-◌, ◌≤◌, ◌≡◌, refl, Bool, true, false, List, length, take, drop, ltb}
use Rattle.std.proofs.Common.{sym, ap, ◌∙◌, arith, length-drop, drop-drop}
use Rattle.laws.specs.Pick.{pick}
use Rattle.framing.specs.Frame.{cut_at, frame_of, size_of}
use Rattle.framing.specs.Frames.{Pieces, frames, tail}
use Rattle.framing.specs.laws.FrontLaws.{front}
use Rattle.framing.specs.laws.FrameLaws.{size_whole, size_cut, frame_cut, cut_frame, frame_take}
use Rattle.framing.specs.laws.FramesLaws.{frames_cut, tail_cut, front_next}
use Rattle.framing.specs.declared.frame.Frame.{Frame}
use Rattle.framing.specs.declared.frame.Frame.TheVariants as frame
use Rattle.chip.specs.Sheet.{fresh_sheet}
use Rattle.mirror.specs.Answer.{number_of, count_places, place_of}
use Rattle.mirror.specs.engine.Way.{Way, way_of}
use Rattle.mirror.specs.Words.{joined_of, free, is_good, done}
use Rattle.mirror.specs.engine.Record.{recorded, read_as, went, transferred, answered}
use Rattle.mirror.specs.laws.TableLaws.{answered_row}
use Rattle.mirror.specs.Run.{counted, advanced, onward}
use Rattle.mirror.specs.engine.Reading.{consumed_of}
use Rattle.mirror.specs.declared.answer.Answer.{Answer}
use Rattle.mirror.specs.declared.answer.Answer.TheVariants as say
use Rattle.mirror.specs.declared.panel.Panel.{Panel}
use Rattle.mirror.specs.declared.record.Recorded.{Recorded}
use Rattle.mirror.specs.declared.totals.Totals.{Totals}

-- whether an answer has its count
abbrev pub Counted : Answer → Type 0
Counted a = ltb (place_of (number_of a)) count_places ≡ true

-- every way of a transfer uses its 14 bytes, and its answer is counted
pub record Settled (r : Recorded) : Type 0 where
  pub used : r.used ≡ 14
  pub counts : Counted r.answer

read_counted : (good : Bool) → Counted (read_as good)
read_counted true = refl
read_counted false = refl

pub went_settled : (v : Way) (time : ℕ) (rs reads : Bool) (bus byte : ℕ) (p : Panel) → Settled (went v time rs reads bus byte p)
went_settled Way.Torn time rs reads bus byte p = record { used = refl; counts = refl }
went_settled Way.Ignored time rs reads bus byte p = record { used = refl; counts = refl }
went_settled Way.Missed time rs reads bus byte p = record { used = refl; counts = refl }
went_settled Way.Nothing time rs reads bus byte p = record { used = refl; counts = refl }
went_settled Way.HoldStatus time rs reads bus byte p = record { used = refl; counts = refl }
went_settled Way.HoldRead time rs reads bus byte p = record { used = refl; counts = refl }
went_settled Way.HoldWrite time rs reads bus byte p = record { used = refl; counts = refl }
went_settled Way.Status time rs reads bus byte p = record { used = refl; counts = refl }
went_settled Way.StatusEnd time rs reads bus byte p = record { used = refl; counts = refl }
went_settled Way.Read time rs reads bus byte p = record { used = refl; counts = read_counted (is_good p) }
went_settled Way.ReadEnd time rs reads bus byte p = record { used = refl; counts = read_counted (is_good p) }
went_settled Way.Write time rs reads bus byte p = record { used = refl; counts = refl }
went_settled Way.Obey time rs reads bus byte p = record { used = refl; counts = refl }

-- the bytes used are the frame's
pub answered_used : (f : Frame) (p : Panel) → (answered f p).used ≡ size_of f
unfolding transferred
answered_used frame.Cut p = refl
answered_used (frame.Bad n) p = refl
answered_used (frame.Reset t) p = by (ltb t p.last)
  where
    by : (b : Bool) → (pick b (recorded p say.Back 0 12) (recorded (done t (fresh_sheet p.sheet.registers.chip) p.times.reset p) say.Taken 0 12)).used ≡ 12
    by true = refl
    by false = refl
answered_used (frame.Transfer t rs reads bus) p = by (ltb t p.last)
  where
    by : (b : Bool) → (pick b (recorded p say.Back 0 14) (transferred t rs reads bus p)).used ≡ 14
    by true = refl
    by false =
        let byte = joined_of p.sheet.registers.eight p.half bus in
        (went_settled (way_of p.sheet.registers.eight p.half (free t p) rs reads byte) t rs reads bus byte p).used

-- an answer that used nothing stands at the cut, and leaves all as it was
pub record Stops (t : Totals) (s : List ℕ) (r : Recorded) : Type 0 where
  pub panel : r.panel ≡ t.panel
  pub totals : onward t (frames s) ≡ t
  pub rest : tail s ≡ s

pub stops : (t : Totals) (s : List ℕ) (r : Recorded) → r ≡ answered (frame_of s) t.panel → r.used ≡ 0 → Stops t s r
unfolding onward
stops t s r e z =
    let n : size_of (frame_of s) ≡ 0 = sym (answered_used (frame_of s) t.panel) ∙ ap (λ (x : Recorded). x.used) (sym e) ∙ z in
    let f = size_cut s n in
    let u = frame_cut s f in
    record {
      panel = ap (λ (x : Recorded). x.panel) e ∙ ap (λ x. (answered x t.panel).panel) f;
      totals = ap (onward t) (frames_cut s u);
      rest = tail_cut s u;
    }

-- any other answers the first record, and the rest goes on from there
pub record Goes (t : Totals) (s : List ℕ) (r : Recorded) : Type 0 where
  pub totals : onward (counted t r) (frames (drop r.used s)) ≡ onward t (frames s)
  pub rest : tail (drop r.used s) ≡ tail s
  pub fits : r.used ≤ length s

pub goes : (t : Totals) (s : List ℕ) (r : Recorded) → r ≡ answered (frame_of s) t.panel → (r.used ≡ 0 → ⊥) → Goes t s r
unfolding onward
goes t s r e z =
    let w = ap (λ (x : Recorded). x.used) e ∙ answered_used (frame_of s) t.panel ∙ size_whole s in
    let f = front s r.used w z in
    let n = front_next f in
    let a : advanced t (take r.used s) ≡ counted t r =
    ap (counted t) (sym (answered_row t.panel (take r.used s)) ∙ ap (λ x. answered x t.panel) (frame_take f) ∙ sym e) in
    record {
      totals = sym (ap (λ (x : Pieces). onward t x.records) n ∙ ap (λ x. onward x (frames (drop r.used s))) a);
      rest = sym (ap (λ (x : Pieces). x.rest) n);
      fits = f.fits;
    }

-- the loop over a log: what is answered up to a place, and what is left from there on, are all
pub record Reading (log : List ℕ) (start t : Totals) (at : ℕ) : Type 0 where
  pub within : at ≤ length log
  pub totals : onward t (frames (drop at log)) ≡ onward start (frames log)
  pub rest : tail (drop at log) ≡ tail log

pub reading_starts : (log : List ℕ) (t : Totals) → Reading log t t 0
reading_starts log t = record { within = omega arith; totals = refl; rest = refl }

pub reading_ends : {log : List ℕ} {start t : Totals} {at : ℕ} → Reading log start t at → (r : Recorded) → r ≡ answered (frame_of (drop at log)) t.panel → r.used ≡ 0 →
    record { totals = record { panel = r.panel; counts = t.counts; records = t.records }; at = at } ≡ consumed_of start log
unfolding onward
reading_ends {log} {start} {t} {at} i r e z =
    let s = stops t (drop at log) r e z in
    let l : length log - length (tail log) ≡ at = omega (arith, i.within, ap length (sym i.rest ∙ s.rest), length-drop at log) in
    let m : record { panel = r.panel; counts = t.counts; records = t.records } ≡ onward start (frames log) =
    ap (λ (p : Panel). record { panel = p; counts = t.counts; records = t.records }) s.panel ∙ sym s.totals ∙ i.totals in
    ap (λ (x : Totals). record { totals = x; at = at }) m ∙ ap (λ n. record { totals = onward start (frames log); at = n }) (sym l)

pub reading_goes : {log : List ℕ} {start t : Totals} {at : ℕ} → Reading log start t at → (r : Recorded) → r ≡ answered (frame_of (drop at log)) t.panel → (r.used ≡ 0 → ⊥) →
    Reading log start (counted t r) (at + r.used)
reading_goes {log} {start} {t} {at} i r e z =
    let g = goes t (drop at log) r e z in
    let d = drop-drop r.used at log in
    record {
      within = omega (arith, g.fits, length-drop at log, i.within);
      totals = ap (λ x. onward (counted t r) (frames x)) (sym d) ∙ g.totals ∙ i.totals;
      rest = ap tail (sym d) ∙ g.rest ∙ i.rest;
    }

-- whether a record is whole shows in the bytes used
pub cut_used : (s : List ℕ) (p : Panel) → (answered (frame_of s) p).used ≡ 0 → cut_at s ≡ true
cut_used s p z = frame_cut s (size_cut s (sym (answered_used (frame_of s) p) ∙ z))

pub uncut_used : (s : List ℕ) (p : Panel) → ((answered (frame_of s) p).used ≡ 0 → ⊥) → cut_at s ≡ false
uncut_used s p z = by (cut_at s) refl
  where
    by : (b : Bool) → cut_at s ≡ b → cut_at s ≡ false
    by true u = absurd (z (answered_used (frame_of s) p ∙ ap size_of (cut_frame s u)))
    by false u = u
