-- A toy machine: a sum, a clock, and digits that come in threes. Its records stay, go and wait in every way that a wired chip's may.
use Rattle.std.specs.Prelude.{ℕ, ◌+◌, ◌*◌, ◌≡◌, ltb}
use Rattle.laws.specs.Pick.{pick}
use Rattle.striking.specs.Machine.{stays, goes, waits, Others, keeps, strikes, leaves, Sort, sorted, Out, Machine}

-- the digits that wait
pub data Gathered : Type 0 where
  none : Gathered
  one : (a : ℕ) → Gathered
  two : (a b : ℕ) → Gathered

pub record Toy : Type 0 where
  pub sum : ℕ
  pub gathered : Gathered
  pub last : ℕ  -- the clock

abbrev pub toy : ℕ → Gathered → ℕ → Toy
toy n g t = record { sum = n; gathered = g; last = t }

abbrev pub fresh : Toy
fresh = toy 0 none 0

pub data Event : Type 0 where
  digit : (time d : ℕ) → Event  -- the third adds all three as one number; only the third looks at the clock
  put : (time n : ℕ) → Event  -- sets the sum, whatever waits
  look : (time : ℕ) → Event  -- reads the sum, whatever waits
  release : Event  -- drops the digits that wait; it has no time

-- `taken` and `seen` carry the sum as it was
pub data Answer : Type 0 where
  held back dropped : Answer
  taken seen : (sum : ℕ) → Answer

abbrev out : Toy → Answer → Out Toy Answer
out s a = record { state = s; answer = a }

-- a digit, by those that wait; after a third none waits
abbrev digits : Gathered → Toy → ℕ → ℕ → Out Toy Answer
digits none s t d = out (toy s.sum (one d) s.last) held
digits (one a) s t d = out (toy s.sum (two a d) s.last) held
digits (two a b) s t d =
    pick (ltb t s.last) (out (toy s.sum none s.last) back) (out (toy (s.sum + (100 * a + 10 * b + d)) none t) (taken s.sum))

abbrev pub step : Toy → Event → Out Toy Answer
step s (digit t d) = digits s.gathered s t d
step s (put t n) = pick (ltb t s.last) (out s back) (out (toy n s.gathered t) (taken s.sum))
step s (look t) = pick (ltb t s.last) (out s back) (out (toy s.sum s.gathered t) (seen s.sum))
step s release = out (toy s.sum none s.last) dropped

-- puts and looks leave the digits waiting
abbrev pub upon : Event → Others → Others
upon (digit t d) o = o
upon (put t n) o = leaves
upon (look t) o = leaves
upon release o = o

-- a third digit keeps the other two where it is taken, and strikes them where it is back in time
abbrev pub sort : Event → Answer → Sort
sort e held = sorted waits leaves
sort e back = sorted goes (upon e strikes)
sort e dropped = sorted goes strikes
sort e (taken n) = sorted stays (upon e keeps)
sort e (seen n) = sorted goes leaves

abbrev pub machine : Machine Toy Event Answer
machine = record { step = step; sort = sort; bare = λ s. toy s.sum none 0; Idle = λ s. s.gathered ≡ none }
