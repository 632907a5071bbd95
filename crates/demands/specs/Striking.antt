-- Demand 3, second half, on the bytes of a log: without its struck records it is answered as before.
-- Struck are the records answered 2 to 7, and the first halves of pairs answered so; the unreadable tail stays out of it.
use Rattle.std.specs.Prelude.{ℕ, ◌≡◌, true, false, ◌||◌, eqb}
use mathlib.Core.List.{List, [], ◌∷◌, Sublistᴰ}
use Rattle.laws.specs.Pick.{pick}
use Rattle.framing.specs.Frames.{frames, tail, joined}
use Rattle.mirror.specs.Answer.{number_of, carried_out}
use Rattle.mirror.specs.Panel.{fresh_panel}
use Rattle.mirror.specs.Answers.{Typed}
use Rattle.mirror.specs.declared.panel.Panel.{Panel}
use Rattle.striking.specs.Machine.{Answered, events}
use Rattle.striking.specs.Striking.{unstruck}
use Rattle.mirror.specs.Stream.{run_of}
use Rattle.demands.specs.Mirrors.{Response, Mirror, ours, settled_panel, machine_of}
use Rattle.demands.specs.Answers.{answers_by, panel_by}

-- the records that stay, with what they were told: read off the log and its answers alone
abbrev pub stayed : Mirror → Panel → List ℕ → List (Answered (List ℕ) Response)
stayed m p log = unstruck (machine_of m).sort (answers_by m p log)

-- the struck log: the bytes of these records, one after another
abbrev pub struck_log : Mirror → Panel → List ℕ → List ℕ
struck_log m p log = joined (events (stayed m p log))

-- the records answered taken, or doubtful, which counts as taken
abbrev pub takens : List (Answered (List ℕ) Response) → List (Answered (List ℕ) Response)
takens [] = []
takens (a ∷ rest) = pick (carried_out (number_of a.answer.answer)) (a ∷ takens rest) (takens rest)

-- all are answered so, or held
abbrev pub TakenOrHeld : List (Answered (List ℕ) Response) → Type 0
TakenOrHeld [] = Unit {0}
TakenOrHeld (a ∷ rest) = ((carried_out (number_of a.answer.answer) || eqb (number_of a.answer.answer) 1) ≡ true) × TakenOrHeld rest

-- What is claimed of striking a log that is answered from p on
pub record StruckFrom (m : Mirror) (p : Panel) (log : List ℕ) : Type 0 where
  -- all that was taken stays, and of the rest only first halves that were held
  pub taken : takens (stayed m p log) ≡ takens (answers_by m p log)
  pub others : TakenOrHeld (stayed m p log)
  -- reading the struck log gives the records that stay, and no tail
  pub records : frames (struck_log m p log) ≡ events (stayed m p log)
  pub whole : tail (struck_log m p log) ≡ []
  -- they are records of the log: none is added, changed or moved
  pub in_order : Sublistᴰ (frames (struck_log m p log)) (frames log)
  -- every record that stays is answered as before, with the same byte read
  pub answers : answers_by m p (struck_log m p log) ≡ stayed m p log
  -- at the end the last time and the waiting half may differ; nothing else does
  pub panel : settled_panel (panel_by m p (struck_log m p log)) ≡ settled_panel (panel_by m p log)
  -- striking twice is striking once
  pub twice : struck_log m p (struck_log m p log) ≡ struck_log m p log

-- DEMAND 3, SECOND HALF, of any mirror: from a fresh panel of a known chip, for any log
abbrev pub Strikes : Mirror → Type 0
Strikes m = (chip reset long short : ℕ) (log : List ℕ) → Typed chip reset long short log → StruckFrom m (fresh_panel chip reset long short) log

-- and of two runs from a panel: the same sheet and the same busy end, and the struck log is not cut
pub record SameRun (p : Panel) (log : List ℕ) : Type 0 where
  pub panel : settled_panel (run_of p (struck_log ours p log)).panel ≡ settled_panel (run_of p log).panel
  pub sheet : (run_of p (struck_log ours p log)).panel.sheet ≡ (run_of p log).panel.sheet
  pub busy : (run_of p (struck_log ours p log)).panel.busy ≡ (run_of p log).panel.busy
  pub cut : (run_of p (struck_log ours p log)).cut ≡ false
