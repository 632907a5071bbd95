-- Striking holds of the toy machine; and what it leaves of some logs.
use Rattle.std.specs.Prelude.{ℕ, ◌+◌, ◌*◌, ◌≤◌, ◌≡◌, refl, List, [], ◌∷◌, ltb}
use Rattle.std.proofs.Common.{arith, le_refl, sym, subst, le-ltb, ltb-false}
use Rattle.striking.specs.Striking.{struck, Struck}
use Rattle.striking.specs.Duties.{Turn, KeeperStays, Laws}
use Rattle.striking.proofs.laws.StrikingLaws.{striking}
use Rattle.striking.proofs.laws.Instances.{by_test}
use Rattle.striking.specs.cases.Toy.{Gathered, none, one, two, Toy, toy, fresh, Event, digit, put, look, release, Answer, held, back, dropped, taken, seen, step, sort, machine}

-- with the digits kept or without them, and the clock perhaps behind
data Beside : Toy → Toy → Toy → Type 0 where
  beside : (n : ℕ) (g : Gathered) (t l l₁ : ℕ) → l ≤ t → l₁ ≤ t → Beside (toy n g t) (toy n g l) (toy n none l₁)

-- all three clocks at u, where a record that stays has set them
level : (n : ℕ) (g : Gathered) (u : ℕ) → Beside (toy n g u) (toy n g u) (toy n none u)
level n g u = beside n g u u u (le_refl u) (le_refl u)

turn : (w k s : Toy) (e : Event) → Beside w k s → Turn machine Beside e (step w e) k s
turn w k s (digit u d) (beside n none t l l₁ h h₁) = record { follows = (refl, beside n (one d) t l l₁ h h₁) }
turn w k s (digit u d) (beside n (one a) t l l₁ h h₁) = record { follows = (refl, beside n (two a d) t l l₁ h h₁) }
turn w k s (digit u d) (beside n (two a b) t l l₁ h h₁) =
    by_test (ltb u t) (λ q. record { follows = beside n none t l₁ l₁ h₁ h₁ })
    (λ q. record { follows = rw (le-ltb u l (omega (arith, ltb-false u t q))) (refl, refl, level (n + (100 * a + 10 * b + d)) none u) })
turn w k s (put u x) (beside n g t l l₁ h h₁) =
    by_test (ltb u t) (λ q. record { follows = beside n g t l l₁ h h₁ })
    (λ q. let i = ltb-false u t q in record { follows = rw (le-ltb u l (omega arith), le-ltb u l₁ (omega arith)) (refl, refl, level x g u) })
turn w k s (look u) (beside n g t l l₁ h h₁) =
    by_test (ltb u t) (λ q. record { follows = beside n g t l l₁ h h₁ })
    (λ q. let i = ltb-false u t q in record { follows = beside n g u l l₁ (omega arith) (omega arith) })
turn w k s release (beside n g t l l₁ h h₁) = record { follows = beside n none t l₁ l₁ h₁ h₁ }

begins : (w : Toy) → w.gathered ≡ none → Beside w w w
begins w e = subst (λ g. Beside w w (toy w.sum g w.last)) (sym e) (level w.sum w.gathered w.last)

ends : (w k s : Toy) → Beside w k s → machine.bare k ≡ machine.bare w
ends w k s (beside n g t l l₁ h h₁) = refl

keeper_stays : (e : Event) (a : Answer) → KeeperStays (sort e a).own (sort e a).others
keeper_stays e held = tt
keeper_stays (digit t d) back = tt
keeper_stays (put t n) back = tt
keeper_stays (look t) back = tt
keeper_stays release back = tt
keeper_stays e dropped = tt
keeper_stays (digit t d) (taken x) = refl
keeper_stays (put t n) (taken x) = tt
keeper_stays (look t) (taken x) = tt
keeper_stays release (taken x) = refl
keeper_stays e (seen x) = tt

pub toy_laws : Laws machine
toy_laws = record { Beside = Beside; begins = begins; turns = turn; ends = ends; keeper_stays = keeper_stays }

pub toy_striking : (s : Toy) → s.gathered ≡ none → (log : List Event) → Struck machine s log
toy_striking = striking machine toy_laws

-- digits that are taken stay, each in its place, and so does the put between them
pub taken_digits : struck machine fresh (digit 0 1 ∷ look 6 ∷ put 7 8 ∷ digit 0 2 ∷ digit 8 3 ∷ []) ≡ digit 0 1 ∷ put 7 8 ∷ digit 0 2 ∷ digit 8 3 ∷ []
taken_digits = refl

-- a third digit back in time strikes the other two, and the put between them stays
pub struck_digits : struck machine fresh (digit 0 1 ∷ look 6 ∷ put 7 8 ∷ digit 0 2 ∷ digit 6 3 ∷ []) ≡ put 7 8 ∷ []
struck_digits = refl

-- a digit that was dropped goes; one that still waits at the end stays
pub waiting_digits : struck machine fresh (digit 0 1 ∷ release ∷ digit 0 2 ∷ look 6 ∷ []) ≡ digit 0 2 ∷ []
waiting_digits = refl
