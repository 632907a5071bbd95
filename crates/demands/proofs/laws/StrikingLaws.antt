-- Demand 3, second half, holds of our mirror.
use Rattle.std.specs.Prelude.{ℕ, ◌<◌, ◌≡◌, refl, Bool, true, false, length, ltb}
use Rattle.std.proofs.Common.{sym, ap, ◌∙◌, subst}
use mathlib.Core.List.{List, [], ◌∷◌, append-nil, Sublistᴰ}
use Rattle.laws.specs.Pick.{pick}
use Rattle.framing.specs.Frame.{data_of}
use Rattle.framing.specs.laws.FrontLaws.{Front}
use Rattle.framing.specs.Frames.{Pieces, pieces_from, pieces, frames, tail, joined}
use Rattle.framing.specs.laws.FramesLaws.{AllRecords, frames_are_records, joined_pieces}
use Rattle.mirror.specs.Panel.{fresh_panel}
use Rattle.mirror.specs.Answers.{Typed, Proper}
use Rattle.mirror.specs.laws.TypedLaws.{AllData, frames_data, proper_lasts, typed_proper, typed_lasts}
use Rattle.mirror.specs.Stream.{run_as, run_of}
use Rattle.mirror.specs.declared.answer.Answer.{Answer}
use Rattle.mirror.specs.declared.answer.Answer.TheVariants as say
use Rattle.mirror.specs.declared.half.Half.TheVariants.{Empty}
use Rattle.mirror.specs.declared.panel.Panel.{Panel}
use Rattle.striking.specs.Machine.{Sort, Answered, events, run, final}
use Rattle.striking.specs.Striking.{remains, unstruck, struck, Struck}
use Rattle.striking.specs.Striking.{kept_by as kept}
use Rattle.striking.proofs.laws.StrikingLaws.{striking}
use Rattle.demands.specs.Mirrors.{Response, Mirror, ours, sort_for, settled_panel, machine_of}
use Rattle.demands.specs.Answers.{answers_by, panel_by}
use Rattle.demands.proofs.laws.EngineLaws.{engine, same_run, same_final, same_answers, same_panel}
use Rattle.demands.proofs.laws.AnswersLaws.{of_engine, of_run}
use Rattle.demands.specs.Striking.{stayed, struck_log, StruckFrom, Strikes, SameRun, takens, TakenOrHeld}
use Rattle.demands.proofs.laws.MirrorLaws.{mirror_laws}

-- What goes and what stays, of any mirror
abbrev told : List ℕ → Answer → ℕ → Answered (List ℕ) Response
told bytes answer byte = record { event = bytes; answer = record { answer = answer; byte = byte } }

module _ (bytes : List ℕ) (byte : ℕ) (left all : List (Answered (List ℕ) Response)) where
  taken_one : (a : Answer) (later : Bool) → takens left ≡ takens all →
      takens (pick (remains (sort_for a).own later) (told bytes a byte ∷ left) left) ≡ takens (told bytes a byte ∷ all)
  taken_one say.Taken later h = ap (λ l. told bytes say.Taken byte ∷ l) h
  taken_one say.Doubtful later h = ap (λ l. told bytes say.Doubtful byte ∷ l) h
  taken_one say.Held true h = h
  taken_one say.Held false h = h
  taken_one say.Status later h = h
  taken_one say.Ignored later h = h
  taken_one say.Torn later h = h
  taken_one say.Back later h = h
  taken_one say.Bad later h = h
  taken_one say.Nothing later h = h
  taken_one say.Cut later h = h
  taken_one say.Unsound later h = h

  held_one : (a : Answer) (later : Bool) → TakenOrHeld left → TakenOrHeld (pick (remains (sort_for a).own later) (told bytes a byte ∷ left) left)
  held_one say.Taken later h = (refl, h)
  held_one say.Doubtful later h = (refl, h)
  held_one say.Held true h = (refl, h)
  held_one say.Held false h = h
  held_one say.Status later h = h
  held_one say.Ignored later h = h
  held_one say.Torn later h = h
  held_one say.Back later h = h
  held_one say.Bad later h = h
  held_one say.Nothing later h = h
  held_one say.Cut later h = h
  held_one say.Unsound later h = h

module _ (m : Mirror) where
  abbrev sort : List ℕ → Response → Sort
  sort = (machine_of m).sort

  -- no record that was taken is struck
  pub taken_stays : (l : List (Answered (List ℕ) Response)) → takens (unstruck sort l) ≡ takens l
  taken_stays [] = refl
  taken_stays (a ∷ l) = taken_one a.event a.answer.byte (unstruck sort l) l a.answer.answer (kept sort l) (taken_stays l)

  -- and of all others only held ones stay: none that is ignored, unusable or a completed status read
  pub only_taken_or_held : (l : List (Answered (List ℕ) Response)) → TakenOrHeld (unstruck sort l)
  only_taken_or_held [] = tt
  only_taken_or_held (a ∷ l) = held_one a.event a.answer.byte (unstruck sort l) l a.answer.answer (kept sort l) (only_taken_or_held l)

-- some of a log's records are records
records_some : {a b : List (List ℕ)} → Sublistᴰ a b → AllRecords b → AllRecords a
records_some Sublistᴰ.slnil h = tt
records_some (Sublistᴰ.cons s) h = records_some s h.1
records_some (Sublistᴰ.cons-cons e s) h = (subst (λ f. Front f (length f)) (sym e) h.0, records_some s h.1)

-- records that follow each other are read back, and nothing is left
joined_back : (fs : List (List ℕ)) → AllRecords fs → pieces (joined fs) ≡ record { records = fs; rest = [] }
unfolding pieces_from
joined_back fs h = ap pieces (sym (append-nil (joined fs))) ∙ joined_pieces fs [] h ∙ ap (λ x. record { records = x; rest = [] }) (append-nil fs)

-- of the engine, from any panel in which no half waits
engine_struck : (p : Panel) → p.half ≡ Empty → (log : List ℕ) → StruckFrom engine p log
engine_struck p n log =
    let m = machine_of engine in
    let s : Struck m p (frames log) = striking m mirror_laws p n (frames log) in
    let back = joined_back (struck m p (frames log)) (records_some s.in_order (frames_are_records log)) in
    let read : frames (struck_log engine p log) ≡ struck m p (frames log) = ap (λ (x : Pieces). x.records) back in
    record {
      taken = taken_stays engine (answers_by engine p log);
      others = only_taken_or_held engine (answers_by engine p log);
      records = read;
      whole = ap (λ (x : Pieces). x.rest) back;
      in_order = subst (λ x. Sublistᴰ x (frames log)) (sym read) s.in_order;
      answers = ap (run m p) read ∙ s.answers;
      panel = ap (λ x. settled_panel (final m p x)) read ∙ s.state;
      twice = ap (λ x. joined (struck m p x)) read ∙ ap joined s.twice;
    }

-- some of the records that carry bytes carry bytes
data_some : {a b : List (List ℕ)} → Sublistᴰ a b → AllData b → AllData a
data_some Sublistᴰ.slnil h = tt
data_some (Sublistᴰ.cons s) h = data_some s h.1
data_some (Sublistᴰ.cons-cons e s) h = (subst (λ f. data_of f < 256) (sym e) h.0, data_some s h.1)

-- what is claimed of the engine holds of the table
as_table : (p : Panel) (log : List ℕ) → Proper p log → StruckFrom engine p log → StruckFrom ours p log
as_table p log c h =
    let s = struck_log engine p log in
    let l = proper_lasts c in
    let d : AllData (frames s) = data_some h.in_order (frames_data log c.bytes) in
    let a = same_answers p log c in
    let b : answers_by engine p s ≡ answers_by ours p s = same_run (frames s) p l d in
    let k : stayed engine p log ≡ stayed ours p log = ap (unstruck (machine_of ours).sort) a in
    let t : s ≡ struck_log ours p log = ap (λ x. joined (events x)) k in
    record {
      taken = ap takens (sym k) ∙ h.taken ∙ ap takens a;
      others = subst TakenOrHeld k h.others;
      records = ap frames (sym t) ∙ h.records ∙ ap events k;
      whole = ap tail (sym t) ∙ h.whole;
      in_order = subst (λ x. Sublistᴰ (frames x) (frames log)) t h.in_order;
      answers = ap (answers_by ours p) (sym t) ∙ sym b ∙ h.answers ∙ k;
      panel =
          ap (λ x. settled_panel (panel_by ours p x)) (sym t) ∙ ap settled_panel (sym (same_final (frames s) p l d)) ∙ h.panel
          ∙ ap settled_panel (same_panel p log c);
      twice =
          ap (struck_log ours p) (sym t) ∙ ap (λ x. joined (events (unstruck (machine_of ours).sort x))) (sym b) ∙ h.twice ∙ t;
    }

-- from any proper panel in which no half waits
pub struck_from : (p : Panel) → p.half ≡ Empty → (log : List ℕ) → Proper p log → StruckFrom ours p log
struck_from p n log c = as_table p log c (engine_struck p n log)

-- DEMAND 3, SECOND HALF
pub strike : Strikes ours
strike chip reset long short log t = struck_from (fresh_panel chip reset long short) refl log (typed_proper t)

-- and so of two runs
pub strike_run : (chip reset long short : ℕ) (log : List ℕ) → Typed chip reset long short log → SameRun (fresh_panel chip reset long short) log
unfolding run_of
strike_run chip reset long short log t =
    let p = fresh_panel chip reset long short in
    let s = strike chip reset long short log t in
    let struck = struck_log ours p log in
    let d : AllData (frames struck) = data_some s.in_order (frames_data log t.bytes) in
    let one : (run_of p struck).panel ≡ panel_by ours p struck = (of_engine p struck (typed_proper t).sound).panel ∙ same_final (frames struck) p (typed_lasts t) d in
    let e : settled_panel (run_of p struck).panel ≡ settled_panel (run_of p log).panel =
    ap settled_panel one ∙ s.panel ∙ sym (ap settled_panel (of_run p log (typed_proper t)).panel) in
    record {
      panel = e;
      sheet = ap (λ (x : Panel). x.sheet) e;
      busy = ap (λ (x : Panel). x.busy) e;
      cut = ap (λ b. (run_as b p struck).cut) (typed_proper t).sound ∙ ap (λ (x : List ℕ). ltb 0 (length x)) s.whole;
    }
