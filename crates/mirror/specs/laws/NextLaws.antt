-- Laws of the answers given one at a time: the next record alone is a part fed.
use Rattle.std.specs.Prelude.{ℕ, ◌+◌, ◌-◌, ◌≤◌, ◌≡◌, refl, Bool, true, false, not, List, [], ◌∷◌, ◌++◌, ltb, length, take, drop, replicate, Option, Some, None, is_some}
use Rattle.std.proofs.Common.{arith, sym, ap, subst, ◌∙◌, append-nil, length-take}
use Rattle.std.proofs.lemmas.Bool.{false≢true}
use Rattle.std.proofs.Math.Option.{none, some}
use Rattle.laws.specs.Pick.{pick}
use Rattle.framing.specs.Frame.{frame_of, is_reset, cut_at, bad_at, wants_more}
use Rattle.framing.specs.Frames.{Pieces, frames, tail}
use Rattle.framing.specs.laws.CutLaws.{none_want, wants_cut}
use Rattle.framing.specs.laws.FramesLaws.{frames_cut, tail_cut, record_first}
use Rattle.framing.specs.Carry.{carried_of, reach, more, filled}
use Rattle.framing.specs.laws.CarryLaws.{left, wanting_wants, fill_front, more_left}
use Rattle.mirror.specs.Answer.{count_places, Paper}
use Rattle.mirror.specs.Panel.{sound_panel}
use Rattle.mirror.specs.Table.{is_back, transfer_for, number_for, byte_for, Tabled, row_for}
use Rattle.mirror.specs.laws.TableLaws.{answered_row, row_sound, tabled}
use Rattle.mirror.specs.Promise.{spoken, Replies, summed, Runs}
use Rattle.mirror.specs.engine.Record.{answered}
use Rattle.mirror.specs.Run.{started, counted, onward}
use Rattle.mirror.specs.laws.RunLaws.{uncut_used, cut_used}
use Rattle.mirror.specs.Stream.{StreamReply, StreamNext, is_refused, waiting_bytes, rested_of, feed_of, next_of, run_as, run_of}
use Rattle.mirror.specs.engine.Reading.{stopped_of}
use Rattle.mirror.specs.laws.StreamLaws.{Fed, feed_open, feed_append}
use Rattle.mirror.specs.declared.record.Recorded.{Recorded}
use Rattle.mirror.specs.declared.stream.Stream.{Stream}
use Rattle.mirror.specs.declared.panel.Panel.{Panel}
use Rattle.mirror.specs.declared.stream.Run.{Run}
use Rattle.mirror.specs.declared.stream.Reply.TheVariants.{Answered, More, Cut, Refused}

-- where none was refused
pub none_refused : (o : Option Panel) → is_some o ≡ false → o ≡ None
none_refused None e = refl
none_refused (Some p) e = absurd (false≢true (sym e))

-- a stream that is neither refused nor over
pub record Going (st : Stream) : Type 0 where
  pub heard : st.refused ≡ None
  pub unended : st.over ≡ false

-- `next_of` with its three tests, the bytes and their number apart
next_by : Stream → Bool → Bool → Bool → List ℕ → ℕ → StreamNext
next_by st refused over cut v n =
    let r = row_for st.totals.panel v in
    pick refused (record { after = st; taken = 0; reply = Refused })
    (pick over (record { after = st; taken = 0; reply = Cut })
    (pick cut (record { after = rested_of st st.totals v; taken = n; reply = pick (wants_more v) More Cut })
    (record { after = rested_of st (counted st.totals r) []; taken = n; reply = Answered (record { answer = r.answer; byte = r.byte }) })))

by_tests : {st : Stream} {part v : List ℕ} {taken : ℕ} (k : Bool) → Fed st part v taken → Going st → cut_at v ≡ k → next_by st false false k v taken ≡ next_of st part
unfolding next_by next_of
by_tests {st} {part} {v} {taken} k f g u =
    let w = filled (waiting_bytes st) part in
    let n = length (more (waiting_bytes st) part) in
    ap (λ x. next_by st false false x v taken) (sym u) ∙ ap (λ x. next_by st false false (cut_at x) x taken) f.carries ∙
    ap (next_by st false false (cut_at w) w) f.takes ∙ ap (λ x. next_by st false x (cut_at w) w n) (sym g.unended) ∙
    ap (λ x. next_by st (is_some x) st.over (cut_at w) w n) (sym g.heard)

-- a stream that was refused takes nothing, whatever it is given, a cut too
pub next_refused : (st : Stream) (part : List ℕ) → is_refused st ≡ true → record { after = st; taken = 0; reply = Refused } ≡ next_of st part
unfolding next_by next_of
next_refused st part e =
    let w = filled (waiting_bytes st) part in
    ap (λ x. next_by st x st.over (cut_at w) w (length (more (waiting_bytes st) part))) (sym e)

pub next_over : (st : Stream) (part : List ℕ) → st.refused ≡ None → st.over ≡ true → record { after = st; taken = 0; reply = Cut } ≡ next_of st part
unfolding next_by next_of
next_over st part e o =
    let w = filled (waiting_bytes st) part in
    let n = length (more (waiting_bytes st) part) in
    ap (λ x. next_by st false x (cut_at w) w n) (sym o) ∙ ap (λ x. next_by st (is_some x) st.over (cut_at w) w n) (sym e)

pub stopped_over : (st : Stream) (part : List ℕ) → st.refused ≡ None → st.over ≡ true → stopped_of st 0 ≡ next_of st part
stopped_over st part e o = ap (λ b. record { after = st; taken = 0; reply = pick b Cut More }) o ∙ next_over st part e o

abbrev stopped : Bool → StreamReply
stopped over = pick over Cut More

-- what is told apart where the record is not whole: a cut that is final, and more wanted
final_or_more : (b w : Bool) → not w ≡ b → stopped b ≡ pick w More Cut
final_or_more b true e = ap stopped (sym e)
final_or_more b false e = ap stopped (sym e)

pub next_stops : {st : Stream} {part v : List ℕ} {taken : ℕ} → Fed st part v taken → Going st → (r : Recorded) → r ≡ answered (frame_of v) st.totals.panel →
    r.used ≡ 0 → (q : Stream) → q ≡ rested_of st st.totals v → (b : Bool) → q.over ≡ b → record { after = q; taken = taken; reply = pick b Cut More } ≡ next_of st part
unfolding next_by
next_stops {st} {part} {v} {taken} f o r e z q g b h =
    ap (λ (x : Stream). record { after = x; taken = taken; reply = pick b Cut More }) g ∙
    ap (λ (x : StreamReply). record { after = rested_of st st.totals v; taken = taken; reply = x })
    (final_or_more b (wants_more v) (ap (λ (x : Stream). x.over) (sym g) ∙ h)) ∙
    by_tests true f o (cut_used v st.totals.panel (ap (λ (x : Recorded). x.used) (sym e) ∙ z))

pub next_goes : {st : Stream} {part v : List ℕ} {taken : ℕ} → Fed st part v taken → Going st → (r : Recorded) → r ≡ answered (frame_of v) st.totals.panel →
    (r.used ≡ 0 → ⊥) → record { after = rested_of st (counted st.totals r) []; taken = taken; reply = Answered (record { answer = r.answer; byte = r.byte }) } ≡ next_of st part
unfolding next_by
next_goes {st} {part} {v} {taken} f o r e z =
    ap (λ (x : Recorded). record { after = rested_of st (counted st.totals x) []; taken = taken; reply = Answered (record { answer = x.answer; byte = x.byte }) }) (e ∙ answered_row st.totals.panel v) ∙
    by_tests false f o (uncut_used v st.totals.panel (λ x. z (ap (λ (y : Recorded). y.used) e ∙ x)))

-- the next record alone is the bytes it needs, fed
pub next_feeds : (st : Stream) (part : List ℕ) → Going st → (next_of st part).after ≡ feed_of st (more (waiting_bytes st) part)
unfolding next_of onward
next_feeds st part g =
    let c = waiting_bytes st in
    let v = filled c part in
    let cut : StreamNext = record { after = st; taken = 0; reply = Cut } in
    ap (λ x. (pick (is_some x) (record { after = st; taken = 0; reply = Refused }) (pick st.over cut (rest (cut_at v)))).after) g.heard ∙
    ap (λ x. (pick x cut (rest (cut_at v))).after) g.unended ∙ by (cut_at v) refl ∙ sym (feed_open st (more c part) g.unended)
  where
    r : Recorded
    r = row_for st.totals.panel (filled (waiting_bytes st) part)

    rest : Bool → StreamNext
    rest b =
        pick b
        (record { after = rested_of st st.totals (filled (waiting_bytes st) part); taken = length (more (waiting_bytes st) part); reply = pick (wants_more (filled (waiting_bytes st) part)) More Cut })
        (record { after = rested_of st (counted st.totals r) []; taken = length (more (waiting_bytes st) part); reply = Answered (record { answer = r.answer; byte = r.byte }) })

    by : (b : Bool) → cut_at (filled (waiting_bytes st) part) ≡ b →
        (rest b).after ≡ rested_of st (onward st.totals (frames (filled (waiting_bytes st) part))) (tail (filled (waiting_bytes st) part))
    by true u =
        let v = filled (waiting_bytes st) part in
        ap (λ fs. rested_of st (onward st.totals fs) v) (sym (frames_cut v u)) ∙
        ap (rested_of st (onward st.totals (frames v))) (sym (tail_cut v u))
    by false u =
        let v = filled (waiting_bytes st) part in
        let p = ap (λ x. x) (record_first [] (fill_front (waiting_bytes st) part (wanting_wants (carried_of st.carry)) u)) in
        let n = wants_cut [] none_want in
        sym
        (ap (λ x. rested_of st (onward st.totals (frames x)) (tail x)) (sym (append-nil v)) ∙
        ap (λ (x : Pieces). rested_of st (onward st.totals x.records) x.rest) p ∙
        ap (λ fs. rested_of st (onward st.totals (v ∷ fs)) (tail [])) (frames_cut [] n) ∙
        ap (rested_of st (onward st.totals (v ∷ []))) (tail_cut [] n))

-- and so is the rest of the part, fed after it
pub next_on : (st : Stream) (part : List ℕ) → Going st → feed_of (next_of st part).after (left (waiting_bytes st) part) ≡ feed_of st part
next_on st part g =
    let c = waiting_bytes st in
    ap (λ x. feed_of x (left c part)) (next_feeds st part g) ∙ feed_append st (more c part) (left c part) ∙ ap (feed_of st) (more_left c part)

-- no more than the part is taken
pub next_within : (st : Stream) (part : List ℕ) → (next_of st part).taken ≤ length part
unfolding next_of next_by
next_within st part = by (is_refused st) st.over (cut_at (filled (waiting_bytes st) part))
  where
    taken : length (more (waiting_bytes st) part) ≤ length part
    taken = omega (arith, length-take (reach (waiting_bytes st ++ part) - length (waiting_bytes st)) part)

    by : (e o k : Bool) → (next_by st e o k (filled (waiting_bytes st) part) (length (more (waiting_bytes st) part))).taken ≤ length part
    by true o k = omega arith
    by false true k = omega arith
    by false false true = taken
    by false false false = taken

-- so what is read after it, in a part that is read from a place on, begins within the part
pub next_reaches : (part : List ℕ) (at : ℕ) (st : Stream) (r : StreamNext) → at ≤ length part → r ≡ next_of st (take (length part - at) (drop at part)) → at + r.taken ≤ length part
next_reaches part at st r h e =
    let rest = take (length part - at) (drop at part) in
    rw e (omega (arith, next_within st rest, length-take (length part - at) (drop at part)))

-- WHAT IS SPOKEN: 10 of a refused stream, 8 after a cut, otherwise the table's number and byte of the record that is whole
spoken_by : (st : Stream) (v : List ℕ) (n : ℕ) → sound_panel st.totals.panel ≡ true → (e o k w : Bool) → cut_at v ≡ k → wants_more v ≡ w →
    let p = st.totals.panel in
    spoken (next_by st e o k v n).reply ≡
    pick e (some (record { number = 10; byte = 0 }))
    (pick o (some (record { number = 8; byte = 0 }))
    (pick w none (some (record { number = number_for p v; byte = byte_for (number_for p v) p v }))))
unfolding next_by
spoken_by st v n s true o k w u m = refl
spoken_by st v n s false true k w u m = refl
spoken_by st v n s false false true true u m = ap (λ b. spoken (pick b More Cut)) m
spoken_by st v n s false false true false u m =
    let p = st.totals.panel in
    ap (λ b. spoken (pick b More Cut)) m ∙
    ap (λ b. some (record { number = pick (not b) 10 8; byte = byte_for (pick (not b) 10 8) p v })) (sym s) ∙
    ap (λ b. some (record {
      number = pick (not (sound_panel p)) 10 (pick b 8 (pick (bad_at v) 6 (pick (is_back p v) 5 (pick (is_reset v) 0 (transfer_for p v)))));
      byte = byte_for (pick (not (sound_panel p)) 10 (pick b 8 (pick (bad_at v) 6 (pick (is_back p v) 5 (pick (is_reset v) 0 (transfer_for p v)))))) p v;
    })) (sym u)
spoken_by st v n s false false false true u m = absurd (false≢true (sym u ∙ wants_cut v m))
spoken_by st v n s false false false false u m =
    let p = st.totals.panel in
    let t = subst (Tabled p v) (sym (row_sound p v s)) (tabled p v) in
    ap (λ (x : Paper). some x) t.paper ∙ ap (λ x. some (record { number = number_for p v; byte = x })) t.byte

pub replies : (st : Stream) (part : List ℕ) (r : StreamNext) → r ≡ next_of st part → Replies st part r
unfolding next_of next_by
replies st part r e =
    let v = filled (waiting_bytes st) part in
    record {
      is = e;
      told = λ s. ap (λ (x : StreamNext). spoken x.reply) e ∙ spoken_by st v (length (more (waiting_bytes st) part)) s (is_refused st) st.over (cut_at v) (wants_more v) refl refl;
    }

-- and of a run
summed_by : (p : Panel) (log : List ℕ) (b : Bool) →
    let cut = ltb 0 (length (tail log)) in
    summed (run_as b p log) ≡
    pick (not b) (record { number = some 10; counts = replicate count_places 0; cut = false })
    (record { number = pick cut (some 8) none; counts = (onward (started p) (frames log)).counts; cut = cut })
summed_by p log true = refl
summed_by p log false = refl

pub runs : (p : Panel) (log : List ℕ) (r : Run) → r ≡ run_of p log → Runs p log r
unfolding run_of
runs p log r e = record { is = e; told = ap summed e ∙ summed_by p log (sound_panel p) }
