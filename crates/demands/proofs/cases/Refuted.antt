-- THE WRONG MIRRORS that document 01 lists ("These must not pass"): of each, a rule that is false, shown by a log.
use Rattle.std.specs.Prelude.{ℕ, ◌≡◌, refl, Bool, true, false, List, [], ◌∷◌, ◌++◌, get_or, replicate, eqb}
use Rattle.std.proofs.Common.{arith, sym, ap, ◌∙◌}
use Rattle.std.proofs.lemmas.Bool.{false≢true}
use Rattle.laws.specs.Pick.{pick}
use Rattle.framing.specs.Frames.{records_of}
use Rattle.chip.specs.Address.{address_number}
use Rattle.chip.specs.Sheet.{fresh_sheet}
use Rattle.chip.specs.declared.sheet.Sheet.{Sheet}
use Rattle.mirror.specs.Answer.{number_of}
use Rattle.mirror.specs.Panel.{fresh_panel}
use Rattle.mirror.specs.Stream.{run_of}
use Rattle.mirror.specs.declared.answer.Answer.{Answer}
use Rattle.mirror.specs.declared.answer.Answer.TheVariants as say
use Rattle.mirror.specs.declared.panel.Panel.{Panel}
use Rattle.striking.specs.Machine as machine
use Rattle.demands.specs.Mirrors.{Response, Mirror, ours}
use Rattle.demands.specs.Answers.{answers_by, panel_by}
use Rattle.demands.specs.Replay.{carried_all, taken_of, Replays}
use Rattle.demands.specs.Rules.{IgnoresBusy, DoesSteps, Counter, Counts, AddsUp}
use Rattle.demands.proofs.laws.RulesLaws.{ignores_busy}
use Rattle.demands.specs.cases.Logs.{answering, instruct_at, write_at, case_panel, typed, proper}

-- ONE THAT ANSWERS THE SAME FOR ALL, whatever it does to the panel. The busy rule: 57h as data at 0 is not ignored; after Clear at 100,
-- 57h as data at 200 is
pub not_the_same : (m : Mirror) (a : Answer) → ((p : Panel) (bytes : List ℕ) → (m p bytes).answer.answer ≡ a) → ¬ IgnoresBusy m
unfolding answering
not_the_same m a same h =
    let cleared = panel_by ours case_panel (instruct_at 100 0x01) in
    let says : Answer → Bool = λ x. eqb (number_of x) 3 in
    let heard : eqb (number_of a) 3 ≡ false =
    sym (ap says (same case_panel (write_at 0 0x57))) ∙ h case_panel (write_at 0 0x57) 0 true false 0x57 refl refl (omega arith) refl refl in
    let ignored : eqb (number_of a) 3 ≡ true =
    sym (ap says (same cleared (write_at 200 0x57))) ∙ h cleared (write_at 200 0x57) 200 true false 0x57 refl refl (omega arith) refl refl in
    false≢true (sym heard ∙ ignored)

abbrev pub always : Answer → Mirror
always a p bytes = record { state = p; answer = record { answer = a; byte = 0 } }

-- ONE THAT ALWAYS ANSWERS IGNORED
pub not_always_ignored : ¬ IgnoresBusy (always say.Ignored)
not_always_ignored = not_the_same (always say.Ignored) say.Ignored (λ p bytes. refl)

-- ONE THAT ALWAYS ANSWERS BAD
pub not_always_bad : ¬ IgnoresBusy (always say.Bad)
not_always_bad = not_the_same (always say.Bad) say.Bad (λ p bytes. refl)

-- ONE THAT NEVER CHANGES THE PANEL, whatever it answers. The steps: 57h as data at 0 is stored
pub not_still : (m : Mirror) → ((p : Panel) (bytes : List ℕ) → (m p bytes).state ≡ p) → ¬ DoesSteps m
unfolding answering
not_still m same h =
    let e : ◌≡◌ {A = ℕ} 0x20 0x57 =
    ap (λ (s : Sheet). get_or s.display 0 0)
    (sym (ap (λ (x : Panel). x.sheet) (same case_panel (write_at 0 0x57))) ∙ h case_panel (write_at 0 0x57) 0 true false 0x57 refl refl (omega arith)) in
    omega arith

-- ONE THAT OBEYS THE FIRST RECORD AND ONLY NODS AT LATER ONES, whatever it is keyed on: it answers as ours does, obeys while the panel is
-- fresh, and leaves the sheet alone once it is not. Demand 3: after 57h as data at 0 and at 40 the replay stands at address 2
abbrev pub IsFresh : Panel → Type 0
IsFresh p = p ≡ fresh_panel p.sheet.registers.chip p.times.reset p.times.long p.times.short

pub record Nods (m : Mirror) : Type 0 where
  pub answers : (p : Panel) (bytes : List ℕ) → (m p bytes).answer ≡ (ours p bytes).answer
  pub obeys : (p : Panel) (bytes : List ℕ) → IsFresh p → (m p bytes).state ≡ (ours p bytes).state
  pub nods : (p : Panel) (bytes : List ℕ) → ¬ IsFresh p → (m p bytes).state.sheet ≡ p.sheet

-- the panel after the first of the two: no longer fresh, for its busy end is 40
abbrev once : Panel
once = (ours case_panel (write_at 0 0x57)).state

once_used : ¬ IsFresh once
unfolding answering
once_used e = let b : ◌≡◌ {A = ℕ} 40 0 = ap (λ (p : Panel). p.busy) e in omega arith

-- the log answered by such a mirror, and the panel at its end
abbrev twice : List ℕ
twice = write_at 0 0x57 ++ write_at 40 0x57

nods_answers : (m : Mirror) → Nods m → answers_by m case_panel twice ≡ answers_by ours case_panel twice
unfolding answering
nods_answers m n =
    let first = n.obeys case_panel (write_at 0 0x57) refl in
    ap (λ (p : Panel). machine.answered (write_at 0 0x57) (m case_panel (write_at 0 0x57)).answer ∷ machine.answered (write_at 40 0x57) (m p (write_at 40 0x57)).answer ∷ []) first
    ∙ ap (λ (r : Response). machine.answered (write_at 0 0x57) r ∷ machine.answered (write_at 40 0x57) (m once (write_at 40 0x57)).answer ∷ []) (n.answers case_panel (write_at 0 0x57))
    ∙ ap (λ (r : Response). machine.answered (write_at 0 0x57) (ours case_panel (write_at 0 0x57)).answer ∷ machine.answered (write_at 40 0x57) r ∷ []) (n.answers once (write_at 40 0x57))

nods_sheet : (m : Mirror) → Nods m → (panel_by m case_panel twice).sheet ≡ once.sheet
unfolding answering
nods_sheet m n =
    ap (λ (p : Panel). (m p (write_at 40 0x57)).state.sheet) (n.obeys case_panel (write_at 0 0x57) refl) ∙ n.nods once (write_at 40 0x57) once_used

pub not_nodding : (m : Mirror) → Nods m → ¬ Replays m
unfolding answering
not_nodding m n h =
    let all = ap (λ l. carried_all (taken_of l) (fresh_sheet 31)) (sym (nods_answers m n)) ∙ h 31 10_000 1_640 40 twice (typed twice refl) ∙ nods_sheet m n in
    let e : ◌≡◌ {A = ℕ} 2 1 = ap (λ (s : Sheet). address_number 31 s.registers.address) all in
    omega arith

-- (the busy rule one of them keeps: that which is keyed on the busy end)
abbrev pub with_sheet : Sheet → Panel → Panel
with_sheet s p = record { sheet = s; busy = p.busy; half = p.half; times = p.times; last = p.last }

abbrev pub nodding : Mirror
nodding p bytes =
    let o = ours p bytes in
    record { state = pick (eqb p.busy 0) o.state (with_sheet p.sheet o.state); answer = o.answer }

pub nodding_ignores_busy : IgnoresBusy nodding
nodding_ignores_busy = ignores_busy

-- ONE THAT INVENTS COUNTS: a run with other counts
abbrev pub counting : (List ℕ → List ℕ) → Counter
counting counts p log =
    let r = run_of p log in
    record { panel = r.panel; counts = counts log; records = r.records; cut = r.cut; refused = r.refused }

-- always the same ones: they don't add up to the number of records
pub not_constant : (counts : List ℕ) → ¬ AddsUp (counting (λ log. counts))
unfolding answering
not_constant counts h =
    let none = h case_panel [] refl (omega arith) in
    let one = h case_panel (write_at 0 0x57) refl (omega arith) in
    let e : ◌≡◌ {A = ℕ} 0 1 = sym none ∙ one in
    omega arith

-- all records as taken: they add up, and after Clear at 100 the write at 200 was ignored
pub not_all_taken : ¬ Counts (counting (λ log. records_of log ∷ replicate 8 0))
unfolding answering
not_all_taken h =
    let e : ◌≡◌ {A = ℕ} 2 1 = h case_panel (instruct_at 100 0x01 ++ write_at 200 0x57) (proper (instruct_at 100 0x01 ++ write_at 200 0x57) refl) 0 (omega arith) in
    omega arith
