-- Demand 3, first half, holds of our mirror.
use Rattle.std.specs.Prelude.{ℕ, ◌+◌, ◌*◌, ◌%◌, ◌/◌, ◌≡◌, refl, Bool, true, false, List, [], ◌∷◌, ◌++◌}
use Rattle.std.proofs.Common.{sym, ap, ◌∙◌, subst, true≢false}
use Rattle.framing.specs.Frame.{frame_of}
use Rattle.framing.specs.Frames.{frames}
use Rattle.framing.specs.declared.frame.Frame.{Frame}
use Rattle.framing.specs.declared.frame.Frame.TheVariants as frame
use Rattle.chip.specs.Sheet.{fresh_sheet}
use Rattle.chip.specs.declared.sheet.Sheet.{Sheet}
use Rattle.mirror.specs.Panel.{fresh_panel}
use Rattle.mirror.specs.Answers.{Typed, Proper}
use Rattle.mirror.specs.laws.TypedLaws.{typed_proper}
use Rattle.mirror.specs.Words.{joined_of}
use Rattle.mirror.specs.engine.Record.{answered}
use Rattle.mirror.specs.Stream.{run_of}
use Rattle.mirror.specs.declared.half.Half.{Half}
use Rattle.mirror.specs.declared.half.Half.TheVariants.{Empty, Ignored, Waiting}
use Rattle.mirror.specs.declared.panel.Panel.{Panel}
use Rattle.mirror.specs.declared.record.Recorded.{Recorded}
use Rattle.striking.specs.Machine.{run, final}
use Rattle.demands.specs.Mirrors.{ours, machine_of}
use Rattle.demands.proofs.laws.EngineLaws.{engine, same_answers, same_panel}
use Rattle.demands.specs.Answers.{answers_by, panel_by}
use Rattle.demands.proofs.laws.AnswersLaws.{of_run}
use Rattle.demands.specs.Replay.{Entry, carried, carried_all, ReplayHalf, none, held, joined_with, entry_of, entries_by, first_after, taken_from, taken_of, Replays, AllSomething}
use Rattle.demands.proofs.laws.Ways.{taken, doubtful, status, ignored, torn, nothing, back, bad, cut, Narrow, Fits, Goes, acts, drops, misses, begins, Came, stands, restarts, transfers, came}

-- the half that waits in the panel is the one read off the answers
data Agree : ReplayHalf → Bool → Half → Type 0 where
  no_half : (eight : Bool) → Agree none eight Empty
  missed : (rs reads : Bool) → Agree none false (Ignored rs reads)
  one : (rs reads : Bool) (bus nibble : ℕ) → (reads ≡ false → nibble ≡ bus / 16) → Agree (held bus) false (Waiting rs reads nibble)

agree_narrow : (first : ReplayHalf) (eight : Bool) (h : Half) → Agree first eight h → Narrow eight h
agree_narrow first eight h (no_half z) e = refl
agree_narrow first eight h (missed rs reads) e = absurd (true≢false (sym e))
agree_narrow first eight h (one rs reads bus nibble g) e = absurd (true≢false (sym e))

-- so a transfer's entry, read off the log, is the one carried out
entry_same : (first : ReplayHalf) (eight : Bool) (h : Half) (rs reads : Bool) (bus : ℕ) → Agree first eight h → Fits eight h reads →
    entry_of rs reads (joined_with first bus) ≡ entry_of rs reads (joined_of eight h bus)
entry_same first eight h rs reads bus (no_half true) f = refl
entry_same first eight h rs reads bus (no_half false) f = absurd f
entry_same first eight h rs reads bus (missed r w) f = absurd f
entry_same first eight h rs true bus (one r w high nibble g) f = refl
entry_same first eight h rs false bus (one r w high nibble g) f = ap (λ n. entry_of rs false (n % 16 * 16 + bus / 16)) (sym (g f))

-- what one record has to show
record Keeps (first : ReplayHalf) (p : Panel) (f : Frame) (r : Recorded) : Type 0 where
  sheet : carried_all (entries_by r.answer first f) p.sheet ≡ r.panel.sheet
  agree : Agree (first_after r.answer first f) r.panel.sheet.registers.eight r.panel.half
  something : AllSomething (entries_by r.answer first f)

transfer_keeps : (first : ReplayHalf) (p : Panel) (time : ℕ) (rs reads : Bool) (bus : ℕ) (eight : Bool) (h : Half) (r : Recorded) →
    eight ≡ p.sheet.registers.eight → Agree first eight h → Goes p time rs reads bus eight h r → Keeps first p (frame.Transfer time rs reads bus) r
transfer_keeps first p time rs reads bus eight h r q g (acts a taken e span byte i s f) =
    let same = entry_same first eight h rs reads bus g f ∙ i in
    record { sheet = rw same refl; agree = no_half (carried e p.sheet).registers.eight; something = rw same (s, tt) }
transfer_keeps first p time rs reads bus eight h r q g (acts a doubtful e span byte i s f) =
    let same = entry_same first eight h rs reads bus g f ∙ i in
    record { sheet = rw same refl; agree = no_half (carried e p.sheet).registers.eight; something = rw same (s, tt) }
transfer_keeps first p time rs reads bus eight h r q g (drops a byte status) =
    record { sheet = refl; agree = no_half p.sheet.registers.eight; something = tt }
transfer_keeps first p time rs reads bus eight h r q g (drops a byte ignored) =
    record { sheet = refl; agree = no_half p.sheet.registers.eight; something = tt }
transfer_keeps first p time rs reads bus eight h r q g (drops a byte torn) =
    record { sheet = refl; agree = no_half p.sheet.registers.eight; something = tt }
transfer_keeps first p time rs reads bus eight h r q g (drops a byte nothing) =
    record { sheet = refl; agree = no_half p.sheet.registers.eight; something = tt }
transfer_keeps first p time rs reads bus eight h r q g (misses n w) = record { sheet = refl; agree = rw (← q, w) (missed rs reads); something = tt }
transfer_keeps first p time rs reads bus eight h r q g (begins nibble byte n w v) =
    record { sheet = refl; agree = rw (← q, w) (one rs reads bus nibble v); something = tt }

keeps : (first : ReplayHalf) (p : Panel) (f : Frame) (r : Recorded) → Agree first p.sheet.registers.eight p.half → Came p f r → Keeps first p f r
keeps first p f r g (stands x a used back) = record { sheet = refl; agree = g; something = tt }
keeps first p f r g (stands x a used bad) = record { sheet = refl; agree = g; something = tt }
keeps first p f r g (stands x a used cut) = record { sheet = refl; agree = g; something = tt }
keeps first p f r g (restarts time l) = record { sheet = refl; agree = no_half true; something = (tt, tt) }
keeps first p f r g (transfers time rs reads bus x l i t) =
    transfer_keeps first p time rs reads bus p.sheet.registers.eight p.half x refl g t

carried_append : (a b : List Entry) (s : Sheet) → carried_all (a ++ b) s ≡ carried_all b (carried_all a s)
carried_append [] b s = refl
carried_append (e ∷ a) b s = carried_append a b (carried e s)

something_append : (a b : List Entry) → AllSomething a → AllSomething b → AllSomething (a ++ b)
something_append [] b h k = k
something_append (e ∷ a) b h k = (h.0, something_append a b h.1 k)

-- what records have to show, one after another
record Replayed (first : ReplayHalf) (p : Panel) (fs : List (List ℕ)) : Type 0 where
  sheet : carried_all (taken_from first (run (machine_of engine) p fs)) p.sheet ≡ (final (machine_of engine) p fs).sheet
  something : AllSomething (taken_from first (run (machine_of engine) p fs))

replayed : (fs : List (List ℕ)) (first : ReplayHalf) (p : Panel) → Agree first p.sheet.registers.eight p.half → Replayed first p fs
replayed [] first p g = record { sheet = refl; something = tt }
replayed (bytes ∷ fs) first p g =
    let f = frame_of bytes in
    let r = answered f p in
    let k = keeps first p f r g (came p f (agree_narrow first p.sheet.registers.eight p.half g)) in
    let rest = replayed fs (first_after r.answer first f) r.panel k.agree in
    let later = taken_from (first_after r.answer first f) (run (machine_of engine) r.panel fs) in
    record {
      sheet = carried_append (entries_by r.answer first f) later p.sheet ∙ ap (carried_all later) k.sheet ∙ rest.sheet;
      something = something_append (entries_by r.answer first f) later k.something rest.something;
    }

from_idle : (p : Panel) → p.half ≡ Empty → (log : List ℕ) → Replayed none p (frames log)
from_idle p n log =
    let eight = p.sheet.registers.eight in
    replayed (frames log) none p (subst (Agree none eight) (sym n) (no_half eight))

-- from any proper panel in which no half waits
pub replay_from : (p : Panel) → p.half ≡ Empty → (log : List ℕ) → Proper p log → carried_all (taken_of (answers_by ours p log)) p.sheet ≡ (panel_by ours p log).sheet
replay_from p n log h =
    ap (λ l. carried_all (taken_of l) p.sheet) (sym (same_answers p log h))
    ∙ (from_idle p n log).sheet
    ∙ ap (λ (q : Panel). q.sheet) (same_panel p log h)

-- DEMAND 3, FIRST HALF
pub replay : Replays ours
replay chip reset long short log t = replay_from (fresh_panel chip reset long short) refl log (typed_proper t)

-- and so of a run: both memories, address, shift and settings
pub replay_run : (chip reset long short : ℕ) (log : List ℕ) → Typed chip reset long short log →
    carried_all (taken_of (answers_by ours (fresh_panel chip reset long short) log)) (fresh_sheet chip) ≡ (run_of (fresh_panel chip reset long short) log).panel.sheet
replay_run chip reset long short log t =
    replay chip reset long short log t ∙ sym (ap (λ (p : Panel). p.sheet) (of_run (fresh_panel chip reset long short) log (typed_proper t)).panel)

-- 00h is never carried out
pub replay_something : (chip reset long short : ℕ) (log : List ℕ) → Typed chip reset long short log → AllSomething (taken_of (answers_by ours (fresh_panel chip reset long short) log))
replay_something chip reset long short log t =
    let p = fresh_panel chip reset long short in
    subst (λ l. AllSomething (taken_of l)) (same_answers p log (typed_proper t)) (from_idle p refl log).something
