-- The counts of a run: each is the number of records answered so, and together they are the number of records.
use Rattle.std.specs.Prelude.{ℕ, ◌+◌, ◌-◌, ◌≤◌, ◌<◌, ◌≡◌, refl, Bool, true, false, List, [], ◌∷◌, length, get_or, set, replicate, ltb, eqb}
use Rattle.std.proofs.Common.{arith, zero-add, sym, ap, ◌∙◌, length-set, length-drop, get_or-set_same, get_or-set_other, ltb-true, ltb-false, eqb-true, ne_eqb}
use Rattle.std.proofs.lemmas.Bool.{false≢true, eqb-false}
use Rattle.std.proofs.lemmas.List.{get_or-replicate}
use Rattle.laws.specs.Pick.{pick}
use Rattle.framing.specs.Frame.{record_size, time_of, rs_of, rw_of, data_of, is_reset, cut_at, bad_at, frame_of}
use Rattle.framing.specs.Frames.{frames, records_of}
use Rattle.framing.specs.laws.FrameLaws.{IsRecord}
use Rattle.framing.specs.laws.FramesLaws.{AllRecords, frames_cut, frames_next, frames_induction, frames_are_records}
use Rattle.framing.specs.laws.FrontLaws.{uncut_front}
use Rattle.framing.specs.declared.frame.Frame.{Frame}
use Rattle.framing.specs.declared.frame.Frame.TheVariants as frame
use Rattle.mirror.specs.Answer.{number_of, count_places, place_of}
use Rattle.mirror.specs.engine.Way.{way_of}
use Rattle.mirror.specs.Words.{joined_of, free}
use Rattle.mirror.specs.engine.Record.{transferred, answered}
use Rattle.mirror.specs.Run.{most_count, capped, raised, tallied, started}
use Rattle.mirror.specs.Panel.{sound_panel}
use Rattle.mirror.specs.Stream.{run_as, run_of}
use Rattle.mirror.specs.laws.RunLaws.{Counted, went_settled}
use Rattle.mirror.specs.laws.StreamLaws.{raised_capped, onward_records}
use Rattle.mirror.specs.declared.answer.Answer.{Answer}
use Rattle.mirror.specs.declared.answer.Answer.TheVariants as say
use Rattle.mirror.specs.declared.panel.Panel.{Panel}
use Rattle.mirror.specs.declared.record.Recorded.{Recorded}
use Rattle.striking.specs.Machine.{Answered, run}
use Rattle.demands.specs.Mirrors.{Response, Mirror, ours, machine_of}
use Rattle.demands.proofs.laws.EngineLaws.{engine}
use Rattle.demands.specs.Answers.{answers_by, counts_of, numbers, OfRun}
use Rattle.demands.proofs.laws.AnswersLaws.{of_engine, of_run}
use Rattle.demands.specs.Rules.{occurrences, InMemory, Counts, CountsRecords, AddsUp}

-- EACH COUNT. The number whose count stands at a place
abbrev number_at : ℕ → ℕ
number_at k = pick (eqb k 0) 0 (pick (eqb k 1) 11 (k - 1))

number_back : (n : ℕ) → place_of n < count_places → number_at (place_of n) ≡ n
number_back n h = by (eqb n 0) refl (eqb n 11) refl (ltb n 8) h
  where
    by : (a : Bool) → eqb n 0 ≡ a → (b : Bool) → eqb n 11 ≡ b → (c : Bool) → pick a 0 (pick b 1 (pick c (n + 1) count_places)) < count_places →
        number_at (pick a 0 (pick b 1 (pick c (n + 1) count_places))) ≡ n
    by true e b f c l = sym (eqb-true n 0 e)
    by false e true f c l = sym (eqb-true n 11 f)
    by false e false f true l =
        rw (ne_eqb (n + 1) 0 (λ i. omega (arith, i)), ne_eqb (n + 1) 1 (λ i. omega (arith, i, eqb-false n 0 e))) (omega arith)
    by false e false f false l = absurd (omega (arith, l))

-- so no two answers share one
place_one : (m n : ℕ) → place_of m < count_places → place_of n < count_places → place_of m ≡ place_of n → m ≡ n
place_one m n h k e = sym (number_back m h) ∙ ap number_at e ∙ number_back n k

-- one answer more
tally_length : (counts : List ℕ) (a : Answer) → length (tallied counts a) ≡ length counts
unfolding tallied
tally_length counts a = by (ltb m count_places)
  where
    m : ℕ
    m = place_of (number_of a)

    by : (x : Bool) → length (pick x (set counts m (raised (get_or counts m 0))) counts) ≡ length counts
    by true = length-set counts m (raised (get_or counts m 0))
    by false = refl

tally_at : (counts : List ℕ) (a : Answer) (n k : ℕ) → place_of n < count_places → length counts ≡ count_places → get_or counts (place_of n) 0 ≡ capped k →
    get_or (tallied counts a) (place_of n) 0 ≡ capped (pick (eqb (number_of a) n) 1 0 + k)
unfolding tallied
tally_at counts a n k h l e = by (ltb m count_places) refl (eqb (number_of a) n) refl
  where
    m : ℕ
    m = place_of (number_of a)

    by : (x : Bool) → ltb m count_places ≡ x → (y : Bool) → eqb (number_of a) n ≡ y →
        get_or (pick x (set counts m (raised (get_or counts m 0))) counts) (place_of n) 0 ≡ capped (pick y 1 0 + k)
    by true f true g =
        let i : m ≡ place_of n = ap place_of (eqb-true (number_of a) n g) in
        let c : k + 1 ≡ 1 + k = omega arith in
        ap (λ j. get_or (set counts m (raised (get_or counts m 0))) j 0) (sym i)
        ∙ get_or-set_same counts m (raised (get_or counts m 0)) 0 (omega (arith, ltb-true m count_places f))
        ∙ ap raised (ap (λ j. get_or counts j 0) i ∙ e)
        ∙ raised_capped k
        ∙ ap capped c
    by true f false g =
        get_or-set_other counts m (place_of n) (raised (get_or counts m 0)) 0 (λ i. eqb-false (number_of a) n g (place_one (number_of a) n (ltb-true m count_places f) h (sym i)))
        ∙ e ∙ ap capped (sym (zero-add k))
    by false f true g = absurd (omega (arith, ltb-false m count_places f, ap place_of (eqb-true (number_of a) n g), h))
    by false f false g = e ∙ ap capped (sym (zero-add k))

count_at : (answers : List (Answered (List ℕ) Response)) (counts : List ℕ) (n k : ℕ) → place_of n < count_places → length counts ≡ count_places → get_or counts (place_of n) 0 ≡ capped k →
    get_or (counts_of counts answers) (place_of n) 0 ≡ capped (occurrences n (numbers answers) + k)
count_at [] counts n k h l e = e ∙ ap capped (sym (zero-add k))
count_at (a ∷ rest) counts n k h l e =
    let x = a.answer.answer in
    let one : ℕ = pick (eqb (number_of x) n) 1 0 in
    let c : occurrences n (numbers rest) + (one + k) ≡ one + occurrences n (numbers rest) + k = omega arith in
    count_at rest (tallied counts x) n (one + k) h (tally_length counts x ∙ l) (tally_at counts x n k h l e) ∙ ap capped c

each_count : (m : Mirror) (p : Panel) (log : List ℕ) → OfRun m p log → (n : ℕ) → place_of n < count_places →
    get_or (run_of p log).counts (place_of n) 0 ≡ capped (occurrences n (numbers (answers_by m p log)))
each_count m p log r n h =
    let answers = answers_by m p log in
    let c : occurrences n (numbers answers) + 0 ≡ occurrences n (numbers answers) = omega arith in
    ap (λ l. get_or l (place_of n) 0) r.counts ∙ count_at answers (replicate count_places 0) n 0 h refl (get_or-replicate count_places (place_of n) 0 0 h) ∙ ap capped c

-- COUNTS: each is the number of records that were answered so
pub counts : Counts run_of
counts p log h = each_count ours p log (of_run p log h)

-- TOGETHER. Every record of a log is answered with a number that has a count
pick_counted : (z : Bool) (x y : Recorded) → Counted x.answer → Counted y.answer → Counted (pick z x y).answer
pick_counted true x y h k = h
pick_counted false x y h k = k

answered_counted : (f : Frame) (p : Panel) → IsRecord f → Counted (answered f p).answer
unfolding transferred
answered_counted frame.Cut p r = absurd r
answered_counted (frame.Bad size) p r = refl
answered_counted (frame.Reset time) p r = pick_counted (ltb time p.last) _ _ refl refl
answered_counted (frame.Transfer time rs reads bus) p r =
    let byte = joined_of p.sheet.registers.eight p.half bus in
    pick_counted (ltb time p.last) _ (transferred time rs reads bus p) refl
    (went_settled (way_of p.sheet.registers.eight p.half (free time p) rs reads byte) time rs reads bus byte p).counts

uncut_record : (s : List ℕ) → cut_at s ≡ false → IsRecord (frame_of s)
unfolding frame_of
uncut_record s u = rw u (by (bad_at s) (is_reset s))
  where
    by : (b r : Bool) → IsRecord (pick b (frame.Bad (record_size s)) (pick r (frame.Reset (time_of s)) (frame.Transfer (time_of s) (rs_of s) (rw_of s) (data_of s))))
    by true r = tt
    by false true = tt
    by false false = tt

-- how often each of the nine numbers stands among the answers, all together
abbrev occurring : List ℕ → ℕ
occurring l =
    occurrences 0 l + occurrences 11 l + occurrences 1 l + occurrences 2 l + occurrences 3 l + occurrences 4 l + occurrences 5 l + occurrences 6 l + occurrences 7 l

one_more : (a : Answer) (l : List ℕ) → Counted a → occurring (number_of a ∷ l) ≡ 1 + occurring l
one_more say.Taken l h = omega arith
one_more say.Doubtful l h = omega arith
one_more say.Held l h = omega arith
one_more say.Status l h = omega arith
one_more say.Ignored l h = omega arith
one_more say.Torn l h = omega arith
one_more say.Back l h = omega arith
one_more say.Bad l h = omega arith
one_more say.Nothing l h = omega arith
one_more say.Cut l h = absurd (false≢true h)
one_more say.Unsound l h = absurd (false≢true h)

occurring_all : (fs : List (List ℕ)) (p : Panel) → AllRecords fs → occurring (numbers (run (machine_of engine) p fs)) ≡ length fs
occurring_all [] p h = refl
occurring_all (f ∷ fs) p h =
    let r = answered (frame_of f) p in
    let rest = numbers (run (machine_of engine) r.panel fs) in
    omega (arith, one_more r.answer rest (answered_counted (frame_of f) p (uncut_record f h.0.uncut)), occurring_all fs r.panel h.1)

capped_small : (n : ℕ) → n ≤ most_count → capped n ≡ n
capped_small n h = by (ltb n most_count) refl
  where
    by : (b : Bool) → ltb n most_count ≡ b → pick b n most_count ≡ n
    by true e = refl
    by false e = omega (arith, h, ltb-false n most_count e)

-- a log has no more records than bytes
few_records : (log : List ℕ) → records_of log ≤ length log
few_records =
    frames_induction (λ s. records_of s ≤ length s) (λ s u. rw (frames_cut s u) (omega arith))
    (λ s u h. rw (frames_next s u) (omega (arith, h, length-drop (record_size s) s, (uncut_front s u).fits, (uncut_front s u).least)))

in_count : (log : List ℕ) → InMemory log → capped (records_of log) ≡ records_of log
in_count log h = capped_small (records_of log) (omega (arith, h, few_records log))

-- COUNTS: the number of records is read off the lengths alone, whatever the panel
pub counts_records : CountsRecords run_of
unfolding run_of
counts_records p log h = by (sound_panel p) ∙ in_count log h
  where
    none : 0 + records_of log ≡ records_of log
    none = omega arith

    by : (b : Bool) → (run_as b p log).records ≡ capped (records_of log)
    by true = onward_records (frames log) (started p) 0 refl ∙ ap capped none
    by false = refl

-- COUNTS: they add up to the number of records
pub adds_up : AddsUp run_of
adds_up p log s h =
    let l = numbers (answers_by engine p log) in
    let all : occurring l ≡ records_of log = occurring_all (frames log) p (frames_are_records log) in
    let few = few_records log in
    let at : (n : ℕ) → place_of n < count_places → occurrences n l ≤ records_of log → get_or (run_of p log).counts (place_of n) 0 ≡ occurrences n l =
    λ n k m. each_count engine p log (of_engine p log s) n k ∙ capped_small (occurrences n l) (omega (arith, m, h, few)) in
    omega (
      arith,
      all,
      at 0 (omega arith) (omega (arith, all)),
      at 11 (omega arith) (omega (arith, all)),
      at 1 (omega arith) (omega (arith, all)),
      at 2 (omega arith) (omega (arith, all)),
      at 3 (omega arith) (omega (arith, all)),
      at 4 (omega arith) (omega (arith, all)),
      at 5 (omega arith) (omega (arith, all)),
      at 6 (omega arith) (omega (arith, all)),
      at 7 (omega arith) (omega (arith, all)),
    )
