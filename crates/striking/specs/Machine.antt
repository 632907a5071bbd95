-- A machine that answers events, a log run through it, and the sorts that striking goes by.
use Rattle.std.specs.Prelude.{List, [], ◌∷◌}

-- what becomes of a record: it stays in the log, goes from it, or waits for a later record to settle it
pub data Own : Type 0 where
  stays goes waits : Own

-- what a record does with those before it that wait: it keeps them all, strikes them all, or leaves them waiting
pub data Others : Type 0 where
  keeps strikes leaves : Others

-- the sort of an answered record says both
pub record Sort : Type 0 where
  pub own : Own
  pub others : Others

abbrev pub sorted : Own → Others → Sort
sorted o w = record { own = o; others = w }

-- what an event comes to: the state after it, and the answer with all that it carries, such as the byte read
pub record Out (S A : Type 0) : Type 0 where
  pub state : S
  pub answer : A

-- A machine. A clock is part of its state: the step tests and sets it, or does neither.
pub record Machine (S E A : Type 0) : Type 1 where
  pub step : S → E → Out S A
  pub sort : E → A → Sort  -- read off the event and its answer together
  pub bare : S → S  -- the state but for its clock and whatever waits
  pub Idle : S → Type 0  -- nothing waits

-- an event with the answer it got
pub record Answered (E A : Type 0) : Type 0 where
  pub event : E
  pub answer : A

abbrev pub answered : {E A : Type 0} → E → A → Answered E A
answered e a = record { event = e; answer = a }

-- an answered log without its answers
abbrev pub events : {E A : Type 0} → List (Answered E A) → List E
events [] = []
events (a ∷ rest) = a.event ∷ events rest

module _ {S E A : Type 0} (m : Machine S E A) where
  -- a log answered, from a state on
  abbrev pub run : S → List E → List (Answered E A)
  run s [] = []
  run s (e ∷ log) = answered e (m.step s e).answer ∷ run (m.step s e).state log

  -- the state at its end
  abbrev pub final : S → List E → S
  final s [] = s
  final s (e ∷ log) = final (m.step s e).state log

-- the same machine with its events read off something else, such as a record's bytes
abbrev pub through : {S X E A : Type 0} → (X → E) → Machine S E A → Machine S X A
through read m = record { step = λ s x. m.step s (read x); sort = λ x a. m.sort (read x) a; bare = m.bare; Idle = m.Idle }
