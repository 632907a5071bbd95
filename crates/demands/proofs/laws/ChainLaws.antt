-- The chain from theorem to function holds.
use Rattle.std.specs.Prelude.{ℕ, zero, suc, ◌+◌, ◌≤◌, ◌≡◌, refl, Bool, false, length, take, drop, eqb, unwrap_or}
use Rattle.std.proofs.Common.{arith, subst, ◌∙◌, length-drop, get_or-drop, eqb-true}
use Rattle.std.proofs.Math.Path.{sym, ap}
use Rattle.std.proofs.Math.Bool.{true}
use mathlib.Core.List.{List, [], ◌∷◌, ◌++◌, append-nil, append_assoc}
use Rattle.std.proofs.lemmas.Bool.{eqb-false}
use Rattle.laws.specs.Pick.{pick}
use Rattle.framing.specs.Frame.{frame_of, record_size, cut_at, wants_more}
use Rattle.framing.specs.Frames.{frames, tail, joined}
use Rattle.framing.specs.laws.CutLaws.{none_want, wants_cut}
use Rattle.framing.specs.laws.FrontLaws.{uncut_front}
use Rattle.framing.specs.laws.FrameLaws.{frame_take, size_record}
use Rattle.framing.specs.laws.FramesLaws.{frames_cut, tail_cut, frames_next}
use Rattle.framing.specs.Carry.{more, filled}
use Rattle.mirror.specs.Panel.{sound_panel, fresh_panel}
use Rattle.mirror.specs.engine.Record.{answered}
use Rattle.mirror.specs.Table.{record_of}
use Rattle.mirror.specs.laws.TableLaws.{answered_sound}
use Rattle.mirror.specs.laws.SoundParts.{whole}
use Rattle.mirror.specs.laws.SoundLaws.{Lasts, record_lasts}
use Rattle.mirror.specs.Answers.{ByteLog, Proper}
use Rattle.mirror.specs.laws.TypedLaws.{proper_lasts, typed_proper}
use Rattle.mirror.specs.Run.{started, onward}
use Rattle.mirror.specs.laws.RunLaws.{answered_used, cut_used, uncut_used}
use Rattle.mirror.specs.Stream.{StreamNext, start_as, start_of, waiting_bytes, rested_of, feed_of, next_of, end_of, run_of}
use Rattle.mirror.specs.laws.StreamLaws.{fed, feed_append, feed_run}
use Rattle.mirror.specs.laws.NextLaws.{next_over}
use Rattle.mirror.specs.laws.AskedLaws.{one_record, taken_part, accepted, stands_at, frames_over, stream_over, frames_more, stream_more, cut_next, whole_next}
use Rattle.mirror.specs.declared.panel.Panel.{Panel}
use Rattle.mirror.specs.declared.record.Recorded.{Recorded}
use Rattle.mirror.specs.declared.stream.Stream.{Stream}
use Rattle.mirror.specs.declared.stream.Reply.TheVariants.{More, Cut}
use Rattle.striking.specs.Machine.{run, final}
use Rattle.demands.specs.Mirrors.{Response, out_of, machine_of}
use Rattle.demands.specs.Answers.{answers_by, panel_by}
use Rattle.demands.proofs.laws.EngineLaws.{engine, same_answers, same_panel}
use Rattle.demands.proofs.laws.AnswersLaws.{onward_panel, of_run}
use Rattle.demands.specs.Chain.{told, calls_of, left_of, tells, Asked, fed_all, Chain, OneChain}
use Rattle.demands.specs.Chain.Asked.{started as begun, asked, ended}

-- BY `record`. What it comes to on a log is what the engine makes of the log's first record
module _ (p : Panel) (s : List ℕ) (l : Lasts p) where
  by_frame : record_of p s ≡ answered (frame_of s) p
  by_frame = sym (answered_sound p s (whole p l.sound))

  used_by : (x : Bool) → eqb (record_of p s).used 0 ≡ x → cut_at s ≡ x
  used_by true e = cut_used s p (ap (λ (r : Recorded). r.used) (sym by_frame) ∙ eqb-true (record_of p s).used 0 e)
  used_by false e = uncut_used s p (λ z. eqb-false (record_of p s).used 0 e (ap (λ (r : Recorded). r.used) by_frame ∙ z))

  -- the bytes that it uses are the record's
  uses : cut_at s ≡ false → (record_of p s).used ≡ record_size s
  uses u = ap (λ (r : Recorded). r.used) by_frame ∙ answered_used (frame_of s) p ∙ size_record s u

  -- and the record alone is answered alike
  alone : cut_at s ≡ false → answered (frame_of (take (record_size s) s)) p ≡ record_of p s
  alone u = ap (λ f. answered f p) (frame_take (uncut_front s u)) ∙ sym by_frame

-- what is proved of the answers and of the panel together, so that both go by one induction
record Calls (n : ℕ) (p : Panel) (s : List ℕ) : Type 0 where
  replies : calls_of n p s ≡ told (answers_by engine p s)
  panel : left_of n p s ≡ panel_by engine p s

ends : (p : Panel) (s : List ℕ) → cut_at s ≡ true → Calls zero p s
ends p s u =
    record {
      replies = ap (λ fs. told (run (machine_of engine) p fs)) (sym (frames_cut s u));
      panel = ap (final (machine_of engine) p) (sym (frames_cut s u));
    }

goes : (n : ℕ) (p : Panel) (s : List ℕ) (l : Lasts p) → cut_at s ≡ false → let r = record_of p s in Calls n r.panel (drop r.used s) →
    ((out_of r).answer ∷ calls_of n r.panel (drop r.used s) ≡ told (answers_by engine p s)) × (left_of n r.panel (drop r.used s) ≡ panel_by engine p s)
goes n p s l u h =
    let r = record_of p s in
    let k = record_size s in
    let a = alone p s l u in
    let rest : drop r.used s ≡ drop k s = ap (λ m. drop m s) (uses p s l u) in (
      ap (λ x. (out_of r).answer ∷ x) (h.replies ∙ ap (λ x. told (answers_by engine r.panel x)) rest)
          ∙ ap (λ (x : Recorded). (out_of x).answer ∷ told (answers_by engine x.panel (drop k s))) (sym a)
          ∙ ap (λ fs. told (run (machine_of engine) p fs)) (sym (frames_next s u)),
      h.panel
          ∙ ap (panel_by engine r.panel) rest
          ∙ ap (λ (x : Recorded). panel_by engine x.panel (drop k s)) (sym a)
          ∙ ap (final (machine_of engine) p) (sym (frames_next s u)),
    )

-- one call more
one_call : (n : ℕ) (p : Panel) (s : List ℕ) → length s ≤ suc n → Lasts p → ByteLog s → let r = record_of p s in
    (length (drop r.used s) ≤ n → Lasts r.panel → ByteLog (drop r.used s) → Calls n r.panel (drop r.used s)) → Calls (suc n) p s
one_call n p s few l b more = by (eqb (record_of p s).used 0) refl
  where
    by : (x : Bool) → eqb (record_of p s).used 0 ≡ x → Calls (suc n) p s
    by true e =
        let z = ends p s (used_by p s l true e) in
        let r = record_of p s in
        record {
          replies = ap (λ c. pick c [] ((out_of r).answer ∷ calls_of n r.panel (drop r.used s))) e ∙ z.replies;
          panel = ap (λ c. pick c p (left_of n r.panel (drop r.used s))) e ∙ z.panel;
        }
    by false e =
        let u = used_by p s l false e in
        let r = record_of p s in
        let f = uncut_front s u in
        let m = more (omega (arith, few, uses p s l u, length-drop r.used s, f.fits, f.least))
        (record_lasts p s (b 13) l) (λ i. rw (get_or-drop r.used s i 0) (b (r.used + i))) in
        let g = goes n p s l u m in
        record {
          replies = ap (λ c. pick c [] ((out_of r).answer ∷ calls_of n r.panel (drop r.used s))) e ∙ g.0;
          panel = ap (λ c. pick c p (left_of n r.panel (drop r.used s))) e ∙ g.1;
        }

-- as many calls as the log has bytes are enough
all_calls : (n : ℕ) (p : Panel) (s : List ℕ) → length s ≤ n → Lasts p → ByteLog s → Calls n p s
all_calls zero p s few l b = ends p s (by (cut_at s) refl)
  where
    by : (x : Bool) → cut_at s ≡ x → cut_at s ≡ true
    by true e = e
    by false e = absurd (omega (arith, few, (uncut_front s e).fits, (uncut_front s e).least))
all_calls (suc n) p s few l b =
    one_call n p s few l b (λ f k c. all_calls n (record_of p s).panel (drop (record_of p s).used s) f k c)

-- BY `next`. Where the stream stands, and what was told so far
told_append : (fs gs : List (List ℕ)) (p : Panel) →
    told (run (machine_of engine) p (fs ++ gs)) ≡ told (run (machine_of engine) p fs) ++ told (run (machine_of engine) (final (machine_of engine) p fs) gs)
told_append [] gs p = refl
told_append (f ∷ fs) gs p = ap (λ x. (engine p f).answer ∷ x) (told_append fs gs (engine p f).state)

record Told (p : Panel) (log : List ℕ) (replies : List Response) (st : Stream) : Type 0 where
  stream : st ≡ feed_of (start_as true p) log
  replies_are : replies ≡ told (answers_by engine p log)

module _ (p : Panel) where
  told_start : Told p [] [] (start_as true p)
  unfolding onward
  told_start =
      let n = wants_cut [] none_want in
      record {
        stream =
            sym
            (fed true p []
            ∙ ap (λ fs. rested_of (start_as true p) (onward (start_as true p).totals fs) (tail [])) (frames_cut [] n)
            ∙ ap (λ s. rested_of (start_as true p) (onward (start_as true p).totals []) s) (tail_cut [] n));
        replies_are = ap (λ fs. told (run (machine_of engine) p fs)) (sym (frames_cut [] n));
      }

  module _ (log : List ℕ) (replies : List Response) (st : Stream) (h : Told p log replies st) (part : List ℕ) where
    abbrev After : StreamNext → Type 0
    After n = Told p (log ++ take n.taken part) (replies ++ tells n.reply) n.after

    -- a cut was met: nothing is taken or told
    over : st.over ≡ true → After (next_of st part)
    over o =
        subst After (next_over st part (accepted p log st h.stream) o)
        (record {
          stream = h.stream ∙ ap (feed_of (start_as true p)) (sym (append-nil log));
          replies_are = append-nil replies ∙ h.replies_are ∙ ap (λ x. told (answers_by engine p x)) (sym (append-nil log));
        })

    module _ (going : st.over ≡ false) where
      abbrev m : List ℕ
      m = more (waiting_bytes st) part

      abbrev v : List ℕ
      v = filled (waiting_bytes st) part

      -- the stream afterwards, whatever the call comes to
      stream_is : (n : StreamNext) → next_of st part ≡ n → n.taken ≡ length m → n.after ≡ feed_of (start_as true p) (log ++ take n.taken part)
      stream_is n e t =
          ap (λ (x : StreamNext). x.after) (sym e) ∙ stream_more p log st h.stream part going
          ∙ ap (λ x. feed_of (start_as true p) (log ++ x)) (sym (taken_part st part) ∙ ap (λ k. take k part) (sym t))

      answers_are : (k : ℕ) → k ≡ length m → (fs : List (List ℕ)) → frames v ≡ fs →
          told (answers_by engine p (log ++ take k part)) ≡ replies ++ told (run (machine_of engine) st.totals.panel fs)
      answers_are k t fs e =
          ap (λ x. told (answers_by engine p (log ++ x))) (ap (λ x. take x part) t ∙ taken_part st part)
          ∙ ap (λ x. told (run (machine_of engine) p x)) (frames_more p log st h.stream part going ∙ ap (λ x. frames log ++ x) e)
          ∙ told_append (frames log) fs p
          ∙ ap (λ x. x ++ told (run (machine_of engine) (final (machine_of engine) p (frames log)) fs)) (sym h.replies_are)
          ∙ ap (λ (q : Panel). replies ++ told (run (machine_of engine) q fs))
          (sym (onward_panel (started p) (frames log)) ∙ sym (stands_at p log st h.stream))

      silent : (w : Bool) → tells (pick w More Cut) ≡ []
      silent true = refl
      silent false = refl

      still : cut_at v ≡ true → After (next_of st part)
      still u =
          let e = cut_next p log st h.stream part going u in
          subst After (sym e)
          (record {
            stream = stream_is _ e refl;
            replies_are = ap (λ x. replies ++ x) (silent (wants_more v)) ∙ sym (answers_are (length m) refl [] (frames_cut v u));
          })

      whole_one : cut_at v ≡ false → After (next_of st part)
      whole_one u =
          let e = whole_next p log st h.stream part going u in
          subst After (sym e)
          (record { stream = stream_is _ e refl; replies_are = sym (answers_are (length m) refl (v ∷ []) (one_record st part u)) })

    one_more : After (next_of st part)
    one_more = by st.over refl (cut_at (filled (waiting_bytes st) part)) refl
      where
        by : (o : Bool) → st.over ≡ o → (k : Bool) → cut_at (filled (waiting_bytes st) part) ≡ k → After (next_of st part)
        by true o k u = over o
        by false o true u = still o u
        by false o false u = whole_one o u

  told_all : sound_panel p ≡ true → {log : List ℕ} {replies : List Response} {st : Stream} → Asked p log replies st → Told p log replies st
  told_all e begun = subst (λ b. Told p [] [] (start_as b p)) (sym e) told_start
  told_all e (asked {log} {replies} {st} before part) = one_more log replies st (told_all e before) part
  told_all e (ended {log} {replies} {st} before over rest) =
      let h = told_all e before in
      record {
        stream = stream_over p log st h.stream over rest;
        replies_are = h.replies_are ∙ ap (λ fs. told (run (machine_of engine) p fs)) (sym (frames_over p log st h.stream over rest));
      }

-- BY `feed`: parts one after another are their bytes together
fed_parts : (parts : List (List ℕ)) (st : Stream) (log : List ℕ) → fed_all (feed_of st log) parts ≡ feed_of st (log ++ joined parts)
fed_parts [] st log = ap (feed_of st) (sym (append-nil log))
fed_parts (part ∷ parts) st log =
    ap (λ x. fed_all x parts) (feed_append st log part) ∙ fed_parts parts st (log ++ part) ∙ ap (feed_of st) (append_assoc log part (joined parts))

fed_start : (b : Bool) (p : Panel) → feed_of (start_as b p) [] ≡ start_as b p
unfolding onward
fed_start b p =
    let n = wants_cut [] none_want in
    fed b p []
    ∙ ap (λ fs. rested_of (start_as b p) (onward (start_as b p).totals fs) (tail [])) (frames_cut [] n)
    ∙ ap (λ s. rested_of (start_as b p) (onward (start_as b p).totals []) s) (tail_cut [] n)

fed_run : (p : Panel) (parts : List (List ℕ)) → end_of (fed_all (start_of p) parts) ≡ run_of p (joined parts)
fed_run p parts =
    ap (λ x. end_of (fed_all x parts)) (sym (fed_start (sound_panel p) p)) ∙ ap end_of (fed_parts parts (start_of p) []) ∙ feed_run p (joined parts)

pub chain : (p : Panel) (log : List ℕ) → Proper p log → Chain p log
chain p log h =
    let c = all_calls (length log) p log (omega arith) (proper_lasts h) h.bytes in
    let a = ap told (same_answers p log h) in
    let q = same_panel p log h in
    record {
      calls = c.replies ∙ a;
      left = c.panel ∙ q;
      nexts = λ replies st x. (told_all p h.sound x).replies_are ∙ a;
      stands = λ replies st x. let t = (told_all p h.sound x).stream in
          ap (λ given. unwrap_or given st.totals.panel) (accepted p log st t) ∙ stands_at p log st t ∙ onward_panel (started p) (frames log) ∙ q;
      whole = of_run p log h;
      parts = λ parts e. fed_run p parts ∙ ap (run_of p) e;
    }

-- THE CHAIN
pub one_chain : OneChain
one_chain chip reset long short log t = chain (fresh_panel chip reset long short) log (typed_proper t)
