-- Striking: which records of an answered log stay, and what is claimed of the log that is left.
-- Which stay is read off the records and their answers alone: no definition here looks into a machine's state.
use Rattle.std.specs.Prelude.{Bool, true, false, ◌≡◌}
use mathlib.Core.List.{List, [], ◌∷◌, Sublistᴰ}
use Rattle.laws.specs.Pick.{pick}
use Rattle.striking.specs.Machine.{Own, stays, goes, waits, Others, keeps, strikes, leaves, Sort, Machine, Answered, events, run, final}

-- whether a record that waits is kept: the next record says so, or leaves it to those that come later
abbrev pub settled : Others → Bool → Bool
settled keeps later = true
settled strikes later = false
settled leaves later = later

-- whether a record stays: its sort says so, or it waits and those that come later say so
abbrev pub remains : Own → Bool → Bool
remains stays later = true
remains goes later = false
remains waits later = later

module _ {E A : Type 0} (sort : E → A → Sort) where
  -- the sort of an answered record
  abbrev pub sort_of : Answered E A → Sort
  sort_of a = sort a.event a.answer

  -- whether these records keep the ones that wait before them; what still waits at the end of the log is kept
  abbrev pub kept_by : List (Answered E A) → Bool
  kept_by [] = true
  kept_by (a ∷ later) = settled (sort_of a).others (kept_by later)

  -- the records that stay, each in its place
  abbrev pub unstruck : List (Answered E A) → List (Answered E A)
  unstruck [] = []
  unstruck (a ∷ later) = pick (remains (sort_of a).own (kept_by later)) (a ∷ unstruck later) (unstruck later)

module _ {S E A : Type 0} (m : Machine S E A) where
  -- the log without the struck records
  abbrev pub struck : S → List E → List E
  struck s log = events (unstruck m.sort (run m s log))

  -- What is claimed of striking a log that is answered from s on
  pub record Struck (s : S) (log : List E) : Type 0 where
    -- records are left out; none is added, changed or moved
    pub in_order : Sublistᴰ (struck s log) log
    -- every record that stays is answered as before, with the same byte read
    pub answers : run m s (struck s log) ≡ unstruck m.sort (run m s log)
    -- the state at the end is the same but for its clock and whatever waits
    pub state : m.bare (final m s (struck s log)) ≡ m.bare (final m s log)
    -- striking twice is striking once
    pub twice : struck s (struck s log) ≡ struck s log
