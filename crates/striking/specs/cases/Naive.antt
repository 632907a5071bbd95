-- Simpler statements of striking, each refuted by a log of the toy machine.
use Rattle.std.specs.Prelude.{ℕ, ◌+◌, ◌≡◌, List, [], ◌∷◌}
use Rattle.std.proofs.Common.{arith, ap}
use Rattle.striking.specs.Machine.{stays, goes, leaves, Sort, sorted, Machine, Answered, final}
use Rattle.striking.specs.Striking.{struck, Struck}
use Rattle.striking.specs.cases.Toy.{two, Toy, toy, fresh, Event, digit, put, look, release, Answer, held, back, dropped, taken, seen, machine}

-- the toy machine with other sorts
abbrev by : (Event → Answer → Sort) → Machine Toy Event Answer
by sort = record { step = machine.step; sort = sort; bare = machine.bare; Idle = machine.Idle }

-- the number of records answered taken
abbrev takens : List (Answered Event Answer) → ℕ
takens [] = 0
takens (a ∷ rest) = one a.answer + takens rest
  where
    one : Answer → ℕ
    one held = 0
    one back = 0
    one dropped = 0
    one (taken n) = 1
    one (seen n) = 0

-- FALSE: a record goes or stays by its own answer alone. A dropped digit is left, and makes up a number with two later ones
abbrev alone : Event → Answer → Sort
alone e held = sorted stays leaves
alone e back = sorted goes leaves
alone e dropped = sorted goes leaves
alone e (taken n) = sorted stays leaves
alone e (seen n) = sorted goes leaves

pub not_alone : ¬ ((log : List Event) → Struck (by alone) fresh log)
not_alone h = let z : ◌≡◌ {A = ℕ} 1 0 = ap takens (h (digit 0 1 ∷ release ∷ digit 0 2 ∷ digit 0 3 ∷ [])).answers in omega arith

-- FALSE: looks alone can be struck. Without the look at 9 the put at 8 is no longer back in time
abbrev looks : Event → Answer → Sort
looks e held = sorted stays leaves
looks e back = sorted stays leaves
looks e dropped = sorted stays leaves
looks e (taken n) = sorted stays leaves
looks e (seen n) = sorted goes leaves

pub not_looks : ¬ ((log : List Event) → Struck (by looks) fresh log)
not_looks h = let z : ◌≡◌ {A = ℕ} 1 0 = ap takens (h (look 9 ∷ put 8 5 ∷ [])).answers in omega arith

-- FALSE: the state at the end is the same, clock and all
pub not_clock : ¬ ((log : List Event) → final machine fresh (struck machine fresh log) ≡ final machine fresh log)
not_clock h = let z : ◌≡◌ {A = ℕ} 0 5 = ap (λ s. s.last) (h (look 5 ∷ [])) in omega arith

-- FALSE: it holds from any state. Digits that wait from before the log are no part of it
pub not_from_any : ¬ ((s : Toy) (log : List Event) → Struck machine s log)
not_from_any h = let z : ◌≡◌ {A = ℕ} 1 0 = ap takens (h (toy 0 (two 1 2) 5) (digit 3 3 ∷ digit 9 4 ∷ [])).answers in omega arith
