-- Simpler statements of demand 3, each refuted by a log.
use Rattle.std.specs.Prelude.{ℕ, ◌≡◌, refl, Bool, true, List, [], ◌∷◌, ◌++◌, get_or, ltb, eqb}
use Rattle.std.proofs.Common.{arith, ap}
use Rattle.laws.specs.Pick.{pick}
use Rattle.framing.specs.Frames.{joined}
use Rattle.chip.specs.Address.{address_number}
use Rattle.chip.specs.declared.sheet.Sheet.{Sheet}
use Rattle.mirror.specs.Answer.{number_of}
use Rattle.mirror.specs.Panel.{sound_panel}
use Rattle.mirror.specs.declared.half.Half.{Half}
use Rattle.mirror.specs.declared.half.Half.TheVariants.{Empty, Ignored, Waiting}
use Rattle.mirror.specs.declared.panel.Panel.{Panel}
use Rattle.striking.specs.Machine.{stays, goes, leaves, Sort, sorted, Answered, events}
use Rattle.striking.specs.Striking.{settled, remains, unstruck}
use Rattle.demands.specs.Mirrors.{Response, ours, sort_for}
use Rattle.demands.specs.Answers.{answers_by, panel_by, numbers}
use Rattle.demands.specs.Replay.{carried_all, taken_of}
use Rattle.demands.specs.Striking.{struck_log, StruckFrom}
use Rattle.demands.specs.cases.Logs.{answering, instruct_at, write_at, status_at, bad_record, case_panel}

-- that a way to strike leaves the answers of what stays as they were
abbrev AsBefore : (List (Answered (List ℕ) Response) → List (Answered (List ℕ) Response)) → Type 0
AsBefore left =
    (log : List ℕ) →
    let all = answers_by ours case_panel log in
    numbers (answers_by ours case_panel (joined (events (left all)))) ≡ numbers (left all)

-- records go where their own answer's number passes a test, and stay otherwise; none looks at another
abbrev by_number : (ℕ → Bool) → List ℕ → Response → Sort
by_number test bytes r = sorted (pick (test (number_of r.answer)) goes stays) leaves

-- FALSE: a record goes or stays by its own answer alone, 2 and more. The first half of a status read is left, and tears the pair that follows
pub not_alone : ¬ AsBefore (unstruck (by_number (λ n. ltb 1 n)))
unfolding answering
not_alone h =
    let log = instruct_at 0 0x20 ++ status_at 40 ++ status_at 41 ++ instruct_at 42 0x80 ++ instruct_at 43 0x50 in
    let e : ◌≡◌ {A = ℕ} 4 1 = ap (λ l. get_or l 2 0) (h log) in
    omega arith

-- FALSE: the first half is the record before. A bad or a back record may stand between the halves
abbrev kept_by_next : List (Answered (List ℕ) Response) → Bool
kept_by_next [] = true
kept_by_next (a ∷ rest) = settled (sort_for a.answer.answer).others true

abbrev before : List (Answered (List ℕ) Response) → List (Answered (List ℕ) Response)
before [] = []
before (a ∷ rest) = pick (remains (sort_for a.answer.answer).own (kept_by_next rest)) (a ∷ before rest) (before rest)

pub not_before : ¬ AsBefore before
unfolding answering
not_before h =
    let log = instruct_at 0 0x20 ++ status_at 40 ++ bad_record ++ status_at 41 ++ instruct_at 42 0x80 ++ instruct_at 43 0x50 in
    let e : ◌≡◌ {A = ℕ} 4 1 = ap (λ l. get_or l 2 0) (h log) in
    omega arith

-- FALSE: status reads alone can be struck. Without the one at 2,000 the write at 1,800 is no longer back in time
pub not_some : ¬ AsBefore (unstruck (by_number (λ n. eqb n 2)))
unfolding answering
not_some h =
    let log = instruct_at 100 0x01 ++ status_at 2_000 ++ write_at 1_800 0x57 in
    let e : ◌≡◌ {A = ℕ} 0 5 = ap (λ l. get_or l 1 0) (h log) in
    omega arith

-- FALSE: the panel at the end is the same. A status read sets the last time
pub not_same_clock : ¬ ((log : List ℕ) → (panel_by ours case_panel (struck_log ours case_panel log)).last ≡ (panel_by ours case_panel log).last)
unfolding answering
not_same_clock h = let e : ◌≡◌ {A = ℕ} 0 5 = h (status_at 5) in omega arith

-- and the first half of an ignored pair waits
abbrev halves : Half → ℕ
halves Empty = 0
halves (Ignored rs reads) = 1
halves (Waiting rs reads nibble) = 1

pub not_same_half : ¬ ((log : List ℕ) → (panel_by ours case_panel (struck_log ours case_panel log)).half ≡ (panel_by ours case_panel log).half)
unfolding answering
not_same_half h = let e : ◌≡◌ {A = ℕ} 0 1 = ap halves (h (instruct_at 0 0x20 ++ instruct_at 39 0x80)) in omega arith

-- FALSE: it holds from any sound panel. A half that waits from before the log is no part of it
abbrev deaf : Panel
deaf = panel_by ours case_panel (instruct_at 0 0x20 ++ instruct_at 39 0x80)

pub not_struck_from_any : ¬ ((p : Panel) → sound_panel p ≡ true → (log : List ℕ) → StruckFrom ours p log)
unfolding answering
not_struck_from_any h =
    let log = instruct_at 41 0x50 ++ instruct_at 81 0x80 ++ instruct_at 82 0x50 in
    let e : ◌≡◌ {A = ℕ} 3 1 = ap (λ l. get_or (numbers l) 0 0) (h deaf refl log).answers in
    omega arith

abbrev waiting : Panel
waiting = panel_by ours case_panel (instruct_at 0 0x20 ++ instruct_at 40 0x80)

pub not_replayed_from_any : ¬ ((p : Panel) → sound_panel p ≡ true → (log : List ℕ) →
    carried_all (taken_of (answers_by ours p log)) p.sheet ≡ (panel_by ours p log).sheet)
unfolding answering
not_replayed_from_any h =
    let e : ◌≡◌ {A = ℕ} 16 5 = ap (λ (s : Sheet). address_number 31 s.registers.address) (h waiting refl (instruct_at 41 0x50)) in
    omega arith
