-- The answers of a log, and the panel at its end: what every demand on a whole log is stated of.
use Rattle.std.specs.Prelude.{ℕ, ◌≡◌, List, [], ◌∷◌, replicate}
use Rattle.framing.specs.Frames.{frames}
use Rattle.mirror.specs.Answer.{number_of, count_places}
use Rattle.mirror.specs.Run.{tallied}
use Rattle.mirror.specs.Stream.{run_of}
use Rattle.mirror.specs.declared.panel.Panel.{Panel}
use Rattle.striking.specs.Machine.{Answered, run, final}
use Rattle.demands.specs.Mirrors.{Response, Mirror, machine_of}

-- a log's records, each with its own bytes and what it was told, one after another from a panel on
abbrev pub answers_by : Mirror → Panel → List ℕ → List (Answered (List ℕ) Response)
answers_by m p log = run (machine_of m) p (frames log)

-- the panel at the end
abbrev pub panel_by : Mirror → Panel → List ℕ → Panel
panel_by m p log = final (machine_of m) p (frames log)

-- the counts of answers, raised one by one
abbrev pub counts_of : List ℕ → List (Answered (List ℕ) Response) → List ℕ
counts_of counts [] = counts
counts_of counts (a ∷ rest) = counts_of (tallied counts a.answer.answer) rest

-- the answers' numbers
abbrev pub numbers : List (Answered (List ℕ) Response) → List ℕ
numbers [] = []
numbers (a ∷ rest) = number_of a.answer.answer ∷ numbers rest

-- THE ANSWERS OF A RUN: its panel and its counts are theirs
pub record OfRun (m : Mirror) (p : Panel) (log : List ℕ) : Type 0 where
  pub panel : (run_of p log).panel ≡ panel_by m p log
  pub counts : (run_of p log).counts ≡ counts_of (replicate count_places 0) (answers_by m p log)
