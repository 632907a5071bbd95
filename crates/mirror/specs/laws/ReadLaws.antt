-- Laws of a stream that is being read record by record.
use Rattle.std.specs.Prelude.{ℕ, ◌+◌, ◌-◌, ◌<◌, ◌≤◌, ◌≡◌, refl, Bool, true, false, List, [], ◌++◌, eqb, length, take, drop}
use Rattle.std.proofs.Common.{arith, sym, ap, ◌∙◌, append-nil, ne_eqb, length-take}
use Rattle.std.proofs.lemmas.Bool.{false≢true}
use Rattle.laws.specs.Pick.{pick}
use Rattle.laws.specs.laws.Lists.{all_left}
use Rattle.framing.specs.Frame.{frame_of, size_of, cut_at}
use Rattle.framing.specs.Carry.{reach, topped_of, more, filled, filled_of}
use Rattle.framing.specs.laws.FrontLaws.{Front}
use Rattle.framing.specs.laws.FrameLaws.{Seen, seen, size_within, frame_take}
use Rattle.framing.specs.laws.FrameLaws.Seen.{cut, bad, transfer, reset}
use Rattle.framing.specs.laws.CarryLaws.{front_reach}
use Rattle.framing.specs.declared.carry.Filled.{Filled}
use Rattle.framing.specs.declared.frame.Frame.{Frame}
use Rattle.mirror.specs.Panel.{sound_panel}
use Rattle.mirror.specs.Run.{counted, tallied, raised}
use Rattle.mirror.specs.Stream.{start_of, waiting_bytes, rested_of, next_of}
use Rattle.mirror.specs.engine.Live.{live_of, verdict, recorded_of}
use Rattle.mirror.specs.engine.Record.{answered}
use Rattle.mirror.specs.engine.Reading.{consumed_of}
use Rattle.mirror.specs.laws.RunLaws as RunLaws
use Rattle.mirror.specs.laws.RunLaws.{answered_used, cut_used, reading_ends, reading_goes}
use Rattle.mirror.specs.laws.StreamLaws.{Fed}
use Rattle.mirror.specs.laws.NextLaws.{Going, next_goes}
use Rattle.mirror.specs.engine.Read.{panel_read, totals_read, recorded_read, reading_of, Begins, Steps, stepped, read_of}
use Rattle.mirror.specs.declared.live.Live.{Live}
use Rattle.mirror.specs.declared.panel.Panel.{Panel}
use Rattle.mirror.specs.declared.reading.Reading.{Reading}
use Rattle.mirror.specs.declared.record.Recorded.{Recorded}
use Rattle.mirror.specs.declared.stream.Stream.{Stream}
use Rattle.mirror.specs.declared.stream.Reply.TheVariants.{Answered}
use Rattle.mirror.specs.declared.totals.Totals.{Totals}
use Rattle.mirror.specs.declared.transfer.Outcome.{Outcome}

-- a reading begins with the panel that it is of, and two that do stand for the same
pub begins : (p : Panel) (records : ℕ) → Begins p records (reading_of p records)
begins p records counts = refl

pub begins_one : (p : Panel) (records : ℕ) (r s : Reading) → Begins p records r → Begins p records s → (counts : List ℕ) →
    totals_read r p.sheet.display p.sheet.pattern counts ≡ totals_read s p.sheet.display p.sheet.pattern counts
begins_one p records r s b e counts = b counts ∙ sym (e counts)

-- two after one record are answered the same and stand for the same: they are one, and so are the memories and the counts
abbrev pub Left : Type 0
Left = Reading × List ℕ × List ℕ × List ℕ

abbrev read_back : Recorded → Totals → Left
read_back r t = (
  record { live = live_of r.panel; outcome = record { verdict = verdict r.answer r.byte; used = r.used }; records = t.records },
  r.panel.sheet.display,
  r.panel.sheet.pattern,
  t.counts,
)

module _ (o : Reading) (log d p c : List ℕ) (r s : Reading) (d' p' c' d'' p'' c'' : List ℕ) (a : Steps o log d p c r d' p' c') (b : Steps o log d p c s d'' p'' c'') where
  pub steps_answer : recorded_read r d' p' ≡ recorded_read s d'' p''
  steps_answer = a.answer ∙ sym b.answer

  pub steps_totals : totals_read r d' p' c' ≡ totals_read s d'' p'' c''
  steps_totals = a.totals ∙ sym b.totals

  pub steps_one : ◌≡◌ {A = Left} (r, d', p', c') (s, d'', p'', c'')
  steps_one = ap (λ x. read_back x (totals_read r d' p' c')) steps_answer ∙ ap (read_back (recorded_read s d'' p'')) steps_totals

-- a record that has bytes is counted
pub stepped_counted : (t : Totals) (r : Recorded) → (r.used ≡ 0 → ⊥) → stepped t r ≡ counted t r
stepped_counted t r z = by (eqb r.used 0) (ne_eqb r.used 0 z) where
  by : (b : Bool) → b ≡ false → pick b (record { panel = r.panel; counts = t.counts; records = t.records }) (counted t r) ≡ counted t r
  by b h = rw h

-- one that has none is not
stepped_cut : (t : Totals) (r : Recorded) → r.used ≡ 0 → stepped t r ≡ record { panel = r.panel; counts = t.counts; records = t.records }
stepped_cut t r z = ap (λ n. pick (eqb n 0) (record { panel = r.panel; counts = t.counts; records = t.records }) (counted t r)) z

-- what one record more comes to, where it is whole
pub steps_counted : (o : Reading) (log d p counts : List ℕ) (k : Live) (v : Outcome) (d' p' counts' : List ℕ) (n : ℕ) →
    recorded_of k d' p' v.verdict v.used ≡ answered (frame_of log) (panel_read o d p) → 0 < v.used → counts' ≡ tallied counts v.verdict.answer →
    n ≡ raised o.records → Steps o log d p counts (record { live = k; outcome = v; records = n }) d' p' counts'
steps_counted o log d p counts k v d' p' counts' n e z c m =
    let t = totals_read o d p counts in
    let r = recorded_of k d' p' v.verdict v.used in
    record {
      answer = e;
      totals = rw (c, m) (sym (stepped_counted t r (λ x. omega (arith, x, z))) ∙ ap (stepped t) e);
      within = omega (arith, ap (λ (x : Recorded). x.used) e, answered_used (frame_of log) (panel_read o d p), size_within log);
    }

-- the loop over a log, in which a turn is lent all that is left
module _ {log : List ℕ} {start t : Totals} {at : ℕ} (i : RunLaws.Reading log start t at) (r : Recorded)
    (e : r ≡ answered (frame_of (take (length log - at) (drop at log))) t.panel) where
  left : r ≡ answered (frame_of (drop at log)) t.panel
  left = e ∙ ap (λ s. answered (frame_of s) t.panel) (all_left log at)

  pub reading_stops : r.used ≡ 0 → record { totals = stepped t r; at = at } ≡ consumed_of start log
  reading_stops z = ap (λ (x : Totals). record { totals = x; at = at }) (stepped_cut t r z) ∙ reading_ends i r left z

  pub reading_steps : (r.used ≡ 0 → ⊥) → RunLaws.Reading log start (stepped t r) (at + r.used)
  reading_steps z = rw (stepped_counted t r z) (reading_goes i r left z)

-- what was read, with a tail unread: it rests where the panel is sound, and is refused where it is not
module _ (st : Stream) (t : Totals) (rest : List ℕ) where
  pub read_rests : sound_panel t.panel ≡ true → rested_of st t rest ≡ read_of st t rest
  read_rests h = by (sound_panel t.panel) h where
    by : (b : Bool) → b ≡ true → rested_of st t rest ≡ pick b (rested_of st t rest) (start_of t.panel)
    by b h = rw h

  pub read_refused : sound_panel t.panel ≡ false → start_of t.panel ≡ read_of st t rest
  read_refused h = by (sound_panel t.panel) h where
    by : (b : Bool) → b ≡ false → start_of t.panel ≡ pick b (rested_of st t rest) (start_of t.panel)
    by b h = rw h

-- where nothing waits, the next record of a log is the one at its front
module _ (st : Stream) (log : List ℕ) (w : waiting_bytes st ≡ []) (u : cut_at log ≡ false) where
  front : Front log (size_of (frame_of log))
  front = by (frame_of log) (seen log) where
    by : (f : Frame) → Seen log f → Front log (size_of f)
    by f (cut v) = absurd (false≢true (sym u ∙ v))
    by f (bad g b) = g
    by f (transfer g k b t) = g
    by f (reset g k b t) = g

  reaches : reach log ≡ size_of (frame_of log)
  reaches = ap reach (sym (append-nil log)) ∙ front_reach [] front

  -- by its own bytes
  pub own_bytes : filled (waiting_bytes st) log ≡ take (size_of (frame_of log)) log
  own_bytes =
      let n : reach log - 0 ≡ size_of (frame_of log) = omega (arith, reaches) in
      ap (λ c. filled c log) w ∙ ap (λ m. take m log) n

  own_length : size_of (frame_of log) ≡ length (more (waiting_bytes st) log)
  own_length =
      let n : reach log - 0 ≡ size_of (frame_of log) = omega (arith, reaches) in
      let l : length (take (size_of (frame_of log)) log) ≡ size_of (frame_of log) = omega (arith, length-take (size_of (frame_of log)) log, size_within log) in
      sym l ∙ ap (λ m. length (take m log)) (sym n) ∙ ap (λ c. length (more c log)) (sym w)

  own_fed : Fed st log (take (size_of (frame_of log)) log) (size_of (frame_of log))
  own_fed = record { carries = sym own_bytes; takes = own_length; within = size_within log }

  pub read_used : (p : Panel) → (answered (frame_of log) p).used ≡ 0 → ⊥
  read_used p z = false≢true (sym u ∙ cut_used log p z)

  pub next_read : Going st →
      let r = answered (frame_of log) st.totals.panel in
      record { after = rested_of st (counted st.totals r) []; taken = size_of (frame_of log); reply = Answered (record { answer = r.answer; byte = r.byte }) } ≡ next_of st log
  next_read g =
      next_goes own_fed g (answered (frame_of log) st.totals.panel) (ap (λ f. answered f st.totals.panel) (sym (frame_take front)))
      (read_used st.totals.panel)

-- the bytes that are gathered for the record that waits are the part's
pub gathered_within : (carried part : List ℕ) (f : Filled) → f ≡ filled_of carried part → f.taken ≤ length part
unfolding topped_of
gathered_within carried part f e =
    let t = ap (λ (x : Filled). x.taken) e in
    omega (arith, t, length-take (reach (carried ++ part) - length carried) part)
