-- Laws of the streaming form: feeding a, then b, is feeding a ++ b; feeding it all and ending is a run.
use Rattle.std.specs.Prelude.{ℕ, ◌+◌, ◌-◌, ◌≤◌, ◌≡◌, Bool, not, ◌||◌, ◌&&◌, length, drop, replicate, ltb, Option}
use Rattle.std.proofs.Math.Path.{refl, sym, ap}
use Rattle.std.proofs.Common.{◌∙◌, arith, add-zero, length-append, length-drop, length-take, drop-drop, ltb-true, ltb-false, lt-ltb, le-ltb, take_all, take}
use Rattle.std.proofs.Math.Bool.{true, false}
use mathlib.Core.List.{List, [], ◌∷◌, ◌++◌, append_assoc, append-nil}
use Rattle.std.proofs.Math.Seq.{drop-append_seam}
use Rattle.laws.specs.Pick.{pick}
use Rattle.framing.specs.Frame.{frame_of, cut_at, wants_more, record_size}
use Rattle.framing.specs.laws.CutLaws.{wants_few, broken, cut_either, cut_one, none_want, broken_append, wants_cut}
use Rattle.framing.specs.Frames.{Pieces, frames, tail, joined}
use Rattle.framing.specs.laws.FrontLaws.{uncut_front}
use Rattle.framing.specs.laws.FrameLaws.{cut_frame, frame_cut}
use Rattle.framing.specs.laws.FramesLaws.{frames_cut, tail_cut, tail_next, joined_frames, tail_is_cut, pieces_append, pieces_broken, record_first}
use Rattle.framing.specs.Carry.{carried_of, carry_of, wanting_of, reach, topped_of, more, filled, filled_of, room}
use Rattle.framing.specs.laws.CarryLaws.{left, carried, fill_carried, wanting_wants, fill_wants, fill_broken, fill_frame, fill_front, fill_whole}
use Rattle.framing.specs.Flaw.{flaw_of}
use Rattle.framing.specs.declared.flaw.Flaw.{Flaw}
use Rattle.framing.specs.declared.frame.Frame.{Frame}
use Rattle.framing.specs.declared.carry.Carry.{Carry}
use Rattle.framing.specs.declared.carry.Filled.{Filled}
use Rattle.mirror.specs.Answer.{count_places}
use Rattle.mirror.specs.Panel.{sound_panel}
use Rattle.mirror.specs.Run.{most_count, capped, raised, started, advanced, onward}
use Rattle.mirror.specs.engine.Reading.{consumed_of}
use Rattle.mirror.specs.Stream.{stand_in, start_as, start_of, waiting_bytes, front_of, rested_of, feed_of, cut_of, end_of, run_as, run_of}
use Rattle.mirror.specs.declared.panel.Panel.{Panel}
use Rattle.mirror.specs.declared.totals.Totals.{Totals}
use Rattle.mirror.specs.declared.totals.Consumed.{Consumed}
use Rattle.mirror.specs.declared.stream.Stream.{Stream}

-- a cut either wants more or is broken, and not both
not_both : (s : List ℕ) → broken s ≡ true → wants_more s ≡ false
not_both s o = by (wants_more s) (ap (λ b. wants_more s && b) (sym o) ∙ cut_one s)
  where
    by : (w : Bool) → (w && true) ≡ false → w ≡ false
    by true e = e
    by false e = refl

pub cut_broken : (s : List ℕ) → cut_at s ≡ true → wants_more s ≡ false → broken s ≡ true
cut_broken s u w = sym (ap (λ b. b || broken s) w) ∙ sym (cut_either s) ∙ u

-- the tail lies at the end of the log
tail_place : (s : List ℕ) → length (joined (frames s)) + length (tail s) ≡ length s
tail_place s = sym (length-append (joined (frames s)) (tail s)) ∙ ap length (joined_frames s)

pub tail_within : (s : List ℕ) → length (tail s) ≤ length s
tail_within s = omega (arith, tail_place s)

pub drop_tail : (s : List ℕ) → drop (length s - length (tail s)) s ≡ tail s
drop_tail s =
    let n : length s - length (tail s) ≡ length (joined (frames s)) = omega (arith, tail_place s) in
    ap (λ k. drop k s) n ∙ ap (drop (length (joined (frames s)))) (sym (joined_frames s)) ∙ drop-append_seam (joined (frames s)) (tail s)

-- whether anything was read is whether the front is whole
pub read_none : (s : List ℕ) → length s - length (tail s) ≡ 0 → cut_at s ≡ true
read_none s e = by (cut_at s) refl
  where
    by : (b : Bool) → cut_at s ≡ b → cut_at s ≡ true
    by true u = u
    by false u =
        let f = uncut_front s u in
        absurd
        (omega
        (arith, f.fits, f.least, tail_within s, tail_within (drop (record_size s) s), ap length (tail_next s u), length-drop (record_size s) s))

pub read_some : (s : List ℕ) → (length s - length (tail s) ≡ 0 → ⊥) → cut_at s ≡ false
read_some s h = by (cut_at s) refl
  where
    by : (b : Bool) → cut_at s ≡ b → cut_at s ≡ false
    by true u = absurd (h (omega (arith, ap length (tail_cut s u))))
    by false u = u

-- a tail that wants no more ends the reading, whatever it holds
ended : Stream → Totals → Stream
ended st t = record { totals = t; carry = carry_of []; over = true; refused = st.refused }

rested_over : (st : Stream) (t : Totals) (rest : List ℕ) → wants_more rest ≡ false → rested_of st t rest ≡ ended st t
unfolding ended
rested_over st t rest w =
    ap (λ b. record { totals = t; carry = carry_of (pick b rest []); over = not b; refused = st.refused }) w

-- what `rest` answers, by its test
pub rested_wants : (st : Stream) (t : Totals) (rest : List ℕ) → wants_more rest ≡ true →
    record { totals = t; carry = carry_of rest; over = false; refused = st.refused } ≡ rested_of st t rest
rested_wants st t rest w =
    sym (ap (λ b. record { totals = t; carry = carry_of (pick b rest []); over = not b; refused = st.refused }) w)

pub rested_ends : (st : Stream) (t : Totals) (rest : List ℕ) → wants_more rest ≡ false →
    record { totals = t; carry = carry_of []; over = true; refused = st.refused } ≡ rested_of st t rest
unfolding ended
rested_ends st t rest w = sym (rested_over st t rest w)

-- a stream that is over takes nothing
pub feed_over : (st : Stream) (part : List ℕ) → st.over ≡ true → feed_of st part ≡ st
unfolding feed_of
feed_over st part o =
    let s = waiting_bytes st ++ part in
    ap (λ b. pick b st (rested_of st (onward st.totals (frames s)) (tail s))) o

pub feed_open : (st : Stream) (part : List ℕ) → st.over ≡ false →
    feed_of st part ≡ rested_of st (onward st.totals (frames (waiting_bytes st ++ part))) (tail (waiting_bytes st ++ part))
unfolding feed_of
feed_open st part o =
    let s = waiting_bytes st ++ part in
    ap (λ b. pick b st (rested_of st (onward st.totals (frames s)) (tail s))) o

-- what the carried bytes and a part come to: c waits, v is what is then carried, r what is left of the part
module _ (st : Stream) (part : List ℕ) (going : st.over ≡ false) where
  abbrev c : List ℕ
  c = waiting_bytes st

  abbrev v : List ℕ
  v = filled c part

  abbrev r : List ℕ
  r = left c part

  -- where the carried record is still cut, nothing is answered
  pub feed_cut : cut_at (filled (waiting_bytes st) part) ≡ true → rested_of st st.totals (filled (waiting_bytes st) part) ≡ feed_of st part
  unfolding onward
  feed_cut u =
      let k = frame_cut (c ++ part) (sym (fill_frame c part) ∙ cut_frame v u) in
      same (wants_more v) refl ∙ ap (λ fs. rested_of st (onward st.totals fs) (c ++ part)) (sym (frames_cut (c ++ part) k)) ∙
      ap (rested_of st (onward st.totals (frames (c ++ part)))) (sym (tail_cut (c ++ part) k)) ∙ sym (feed_open st part going)
    where
      same : (b : Bool) → wants_more v ≡ b → rested_of st st.totals v ≡ rested_of st st.totals (c ++ part)
      same true w = ap (λ m. rested_of st st.totals (c ++ m)) (fill_wants c part w)
      same false w =
          rested_over st st.totals v w ∙
          sym (rested_over st st.totals (c ++ part) (not_both (c ++ part) (fill_broken c part (cut_broken v u w))))

  -- where it is whole it is answered, and then what follows in the part
  pub feed_whole : cut_at (filled (waiting_bytes st) part) ≡ false →
      rested_of st (onward (onward st.totals (frames (filled (waiting_bytes st) part))) (frames (left (waiting_bytes st) part))) (tail (left (waiting_bytes st) part)) ≡
      feed_of st part
  unfolding onward
  feed_whole u =
      let w = wanting_wants (carried_of st.carry) in
      let p = fill_whole c part w u in
      let one : frames v ≡ v ∷ [] = ap frames (sym (append-nil v)) ∙ ap (λ (x : Pieces). x.records) (record_first [] (fill_front c part w u)) ∙
      ap (λ fs. v ∷ fs) (frames_cut [] (wants_cut [] none_want)) in
      ap (λ fs. rested_of st (onward (onward st.totals fs) (frames r)) (tail r)) one ∙
      ap (λ (x : Pieces). rested_of st (onward st.totals x.records) x.rest) (sym p) ∙ sym (feed_open st part going)

-- records after records
pub onward_append : (t : Totals) (a b : List (List ℕ)) → onward t (a ++ b) ≡ onward (onward t a) b
unfolding onward
onward_append t [] b = refl
onward_append t (x ∷ a) b = onward_append (advanced t x) a b

-- what waits after a part that wants more is that part's tail
pub waits_tail : (st : Stream) (t : Totals) (rest : List ℕ) → wants_more rest ≡ true → waiting_bytes (rested_of st t rest) ≡ rest
waits_tail st t rest w =
    let k : wanting_of rest ≡ rest = ap (λ b. pick b rest []) w in
    ap wanting_of (carried (wanting_of rest) ∙ k) ∙ k

module _ (st : Stream) (a b : List ℕ) where
  abbrev s : List ℕ
  s = waiting_bytes st ++ a

  abbrev t : Totals
  t = onward st.totals (frames s)

  -- the whole of both parts, read at once
  at_once : st.over ≡ false → rested_of st (onward st.totals (frames (s ++ b))) (tail (s ++ b)) ≡ feed_of st (a ++ b)
  at_once o =
      ap (λ x. rested_of st (onward st.totals (frames x)) (tail x)) (append_assoc (waiting_bytes st) a b) ∙ sym (feed_open st (a ++ b) o)

  then_fed : (w : Bool) → wants_more (tail s) ≡ w → st.over ≡ false → feed_of (rested_of st t (tail s)) b ≡ feed_of st (a ++ b)
  then_fed true w o =
      let q = rested_of st t (tail s) in
      let e : waiting_bytes q ++ b ≡ tail s ++ b = ap (λ x. x ++ b) (waits_tail st t (tail s) w) in
      let z : q.over ≡ false = ap not w in
      feed_open q b z ∙ ap (λ x. rested_of st (onward t (frames x)) (tail x)) e ∙
      ap (λ x. rested_of st x (tail (tail s ++ b))) (sym (onward_append st.totals (frames s) (frames (tail s ++ b)))) ∙
      ap (λ (x : Pieces). rested_of st (onward st.totals x.records) x.rest) (sym (pieces_append s b)) ∙ at_once o
  then_fed false w o =
      let q = rested_of st t (tail s) in
      let z : q.over ≡ true = ap not w in
      let k = cut_broken (tail s) (tail_is_cut s) w in
      feed_over q b z ∙ rested_over st t (tail s) w ∙
      sym (rested_over st t (tail s ++ b) (not_both (tail s ++ b) (broken_append (tail s) b k))) ∙
      ap (λ x. rested_of st x (tail s ++ b)) (sym (ap (onward st.totals) (append-nil (frames s)))) ∙
      ap (λ (x : Pieces). rested_of st (onward st.totals x.records) x.rest) (sym (pieces_broken s b k)) ∙ at_once o

  -- feeding a, then b, is feeding a ++ b
  pub feed_append : feed_of (feed_of st a) b ≡ feed_of st (a ++ b)
  feed_append = by st.over refl
    where
      by : (o : Bool) → st.over ≡ o → feed_of (feed_of st a) b ≡ feed_of st (a ++ b)
      by true o = ap (λ x. feed_of x b) (feed_over st a o) ∙ feed_over st b o ∙ sym (feed_over st (a ++ b) o)
      by false o = ap (λ x. feed_of x b) (feed_open st a o) ∙ then_fed (wants_more (tail s)) refl o

-- a count that is capped is raised as the number is
pub raised_capped : (n : ℕ) → raised (capped n) ≡ capped (n + 1)
raised_capped n = by (ltb n most_count) refl (ltb (n + 1) most_count) refl
  where
    by : (b : Bool) → ltb n most_count ≡ b → (d : Bool) → ltb (n + 1) most_count ≡ d → raised (pick b n most_count) ≡ pick d (n + 1) most_count
    by true e true f = ap (λ x. pick x (n + 1) n) e
    by true e false f = ap (λ x. pick x (n + 1) n) e ∙ omega (arith, ltb-true n most_count e, ltb-false (n + 1) most_count f)
    by false e true f = absurd (omega (arith, ltb-false n most_count e, ltb-true (n + 1) most_count f))
    by false e false f = ap (λ x. pick x (most_count + 1) most_count) (le-ltb most_count most_count (omega arith))

-- the number of records counted is that of the records, from any panel
pub onward_records : (fs : List (List ℕ)) (t : Totals) (n : ℕ) → t.records ≡ capped n → (onward t fs).records ≡ capped (n + length fs)
unfolding onward
onward_records [] t n e = e ∙ ap capped (sym (add-zero n))
onward_records (f ∷ fs) t n e =
    let m : n + 1 + length fs ≡ n + length (f ∷ fs) = omega arith in
    onward_records fs (advanced t f) (n + 1) (ap raised e ∙ raised_capped n) ∙ ap capped m

-- what is left over after all is what was not read
cut_tail : (st : Stream) (t : Totals) (rest : List ℕ) → cut_of (rested_of st t rest) ≡ ltb 0 (length rest)
cut_tail st t rest = by (wants_more rest) refl
  where
    by : (w : Bool) → wants_more rest ≡ w → pick (not w) true (ltb 0 (length (carried_of (carry_of (pick w rest []))))) ≡ ltb 0 (length rest)
    by true w = ap (λ s. ltb 0 (length s)) (carried rest)
    by false w = sym (some rest w)
      where
        some : (l : List ℕ) → wants_more l ≡ false → ltb 0 (length l) ≡ true
        some [] e = sym e ∙ none_want
        some (x ∷ l) e = lt-ltb 0 (length (x ∷ l)) (omega arith)

-- a log fed to a stream that has just started
pub fed : (b : Bool) (p : Panel) (log : List ℕ) → feed_of (start_as b p) log ≡ rested_of (start_as b p) (onward (start_as b p).totals (frames log)) (tail log)
fed b p log =
    let st = start_as b p in
    let none : waiting_bytes st ≡ [] = ap wanting_of (carried []) ∙ ap (λ w. pick w [] []) none_want in
    feed_open st log refl ∙ ap (λ w. rested_of st (onward st.totals (frames (w ++ log))) (tail (w ++ log))) none

-- feeding it all and ending is a run
pub feed_run : (p : Panel) (log : List ℕ) → end_of (feed_of (start_of p) log) ≡ run_of p log
unfolding run_of
feed_run p log = by (sound_panel p)
  where
    by : (b : Bool) → end_of (feed_of (start_as b p) log) ≡ run_as b p log
    by true =
        let t = onward (started p) (frames log) in
        ap end_of (fed true p log) ∙
        ap (λ c. record { panel = t.panel; counts = t.counts; records = t.records; cut = c; refused = false }) (cut_tail (start_as true p) t (tail log))
    by false =
        let n : 0 + length (frames log) ≡ length (frames log) = omega arith in
        ap end_of (fed false p log) ∙
        ap (λ r. record { panel = p; counts = replicate count_places 0; records = r; cut = false; refused = true })
        (onward_records (frames log) (started stand_in) 0 refl ∙ ap capped n)

-- what is gathered with the bytes that wait
pub gathers : (st : Stream) (part : List ℕ) (w : Carry) (f : Filled) → w ≡ carry_of (waiting_bytes st) → f ≡ filled_of (carried_of w) part →
    f ≡ filled_of (waiting_bytes st) part
gathers st part w f e g = g ∙ ap (λ x. filled_of (carried_of x) part) e ∙ ap (λ x. filled_of x part) (carried (waiting_bytes st))

-- what wants more is kept whole
pub keeps_wanting : (rest : List ℕ) → wants_more rest ≡ true → carry_of (take room rest) ≡ carry_of rest
keeps_wanting rest w = ap carry_of (take_all room rest (omega (arith, wants_few rest w)))

-- what `feed` has in hand once it has filled the carry: the bytes then carried, and how many of the part's they took
pub record Fed (st : Stream) (part v : List ℕ) (taken : ℕ) : Type 0 where
  pub carries : v ≡ filled (waiting_bytes st) part
  pub takes : taken ≡ length (more (waiting_bytes st) part)
  pub within : taken ≤ length part

pub has_fed : (st : Stream) (part : List ℕ) (f : Filled) (held : List ℕ) → f ≡ filled_of (waiting_bytes st) part → held ≡ carried_of f.carry →
    Fed st part held f.taken
unfolding topped_of
has_fed st part f held q k =
    let t = ap (λ (x : Filled). x.taken) q in
    record {
      carries = k ∙ ap (λ (x : Filled). carried_of x.carry) q ∙ fill_carried (waiting_bytes st) part;
      takes = t;
      within = omega (arith, t, length-take (reach (waiting_bytes st ++ part) - length (waiting_bytes st)) part);
    }

-- what `front` reads off the carry once it is filled
pub front_read : (st : Stream) (part : List ℕ) (f : Filled) (frame : Frame) (flaw : Option Flaw) → f ≡ filled_of (waiting_bytes st) part →
    frame ≡ frame_of (carried_of f.carry) → flaw ≡ flaw_of (carried_of f.carry) → record { frame = frame; flaw = flaw } ≡ front_of st part
front_read st part f frame flaw q h k =
    let v = ap (λ (x : Filled). carried_of x.carry) q ∙ fill_carried (waiting_bytes st) part in
    rw (h ∙ ap frame_of v, k ∙ ap flaw_of v)

-- the first record is not whole yet: all rests
pub feed_stops : {st : Stream} {part v : List ℕ} {taken : ℕ} → Fed st part v taken → st.over ≡ false → (q : Consumed) → q ≡ consumed_of st.totals v →
    q.at ≡ 0 → rested_of st q.totals v ≡ feed_of st part
unfolding onward
feed_stops {st} {part} {v} f o q e z =
    let u = read_none v (ap (λ (x : Consumed). x.at) (sym e) ∙ z) in
    let t : q.totals ≡ st.totals = ap (λ (x : Consumed). x.totals) e ∙ ap (onward st.totals) (frames_cut v u) in
    ap (λ x. rested_of st x v) t ∙ ap (rested_of st st.totals) f.carries ∙ feed_cut st part o (ap cut_at (sym f.carries) ∙ u)

-- it is: the part goes on after it
pub record Onto (st : Stream) (part : List ℕ) (taken : ℕ) (q : Consumed) : Type 0 where
  pub is : rested_of st q.totals (drop (taken + q.at) part) ≡ feed_of st part
  pub within : taken + q.at ≤ length part

pub feed_goes : {st : Stream} {part v : List ℕ} {taken : ℕ} → Fed st part v taken → st.over ≡ false → (q : Consumed) → q ≡ consumed_of st.totals v →
    (q.at ≡ 0 → ⊥) → (k : Consumed) → k ≡ consumed_of q.totals (drop taken part) → Onto st part taken k
feed_goes {st} {part} {v} {taken} f o q e z k g =
    let u = read_some v (λ x. z (ap (λ (y : Consumed). y.at) e ∙ x)) in
    let r = drop taken part in
    let l : r ≡ left (waiting_bytes st) part = ap (λ n. drop n part) f.takes in
    let t : k.totals ≡ onward (onward st.totals (frames v)) (frames r) =
    ap (λ (y : Consumed). y.totals) g ∙ ap (λ (y : Consumed). onward y.totals (frames r)) e in
    let d : drop (taken + k.at) part ≡ tail r =
    sym (drop-drop k.at taken part) ∙ ap (λ (y : Consumed). drop y.at r) g ∙ drop_tail r in
    record {
      is =
          ap (λ x. rested_of st x (drop (taken + k.at) part)) t ∙ ap (rested_of st (onward (onward st.totals (frames v)) (frames r))) d ∙
          ap (λ x. rested_of st (onward (onward st.totals (frames x)) (frames r)) (tail r)) f.carries ∙
          ap (λ x. rested_of st (onward (onward st.totals (frames (filled (waiting_bytes st) part))) (frames x)) (tail x)) l ∙
          feed_whole st part o (ap cut_at (sym f.carries) ∙ u);
      within = omega (arith, f.within, length-drop taken part, ap (λ (y : Consumed). y.at) g, tail_within r);
    }
