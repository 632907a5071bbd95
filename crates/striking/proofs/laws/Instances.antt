-- What helps a machine to show the laws.
use Rattle.std.specs.Prelude.{Bool, true, false, ◌≡◌, refl}
use Rattle.laws.specs.Pick.{pick}
use Rattle.striking.specs.Machine.{Own, stays, goes, waits, Out, Machine, through}
use Rattle.striking.specs.Duties.{if_kept, if_struck, Follows, Turn, Laws}

-- an event that a test decides
pub by_test : {S E A : Type 0} {m : Machine S E A} {Beside : S → S → S → Type 0} {e : E} {k s : S} {x y : Out S A} (z : Bool) →
    (z ≡ true → Turn m Beside e x k s) → (z ≡ false → Turn m Beside e y k s) → Turn m Beside e (pick z x y) k s
by_test true p q = p refl
by_test false p q = q refl

module _ {S X E A : Type 0} (read : X → E) (m : Machine S E A) where
  through_follows : (Beside : S → S → S → Type 0) (own : Own) (x : X) (o : Out S A) (k s : S) →
      Follows m Beside own (read x) o k s → Follows (through read m) Beside own x o k s
  through_follows Beside stays x o k s h = h
  through_follows Beside goes x o k s h = h
  through_follows Beside waits x o k s h = h

  through_turn : (Beside : S → S → S → Type 0) (x : X) (o : Out S A) (k s : S) → Turn m Beside (read x) o k s → Turn (through read m) Beside x o k s
  through_turn Beside x o k s h =
      let t = m.sort (read x) o.answer in
      record { follows = through_follows Beside t.own x o (if_kept t.others k s) (if_struck t.others k s) h.follows }

  -- a machine has the laws however its events are read
  pub through_laws : Laws m → Laws (through read m)
  through_laws laws =
      record {
        Beside = laws.Beside;
        begins = laws.begins;
        turns = λ w k s x b. through_turn laws.Beside x (m.step w (read x)) k s (laws.turns w k s (read x) b);
        ends = laws.ends;
        keeper_stays = λ x a. laws.keeper_stays (read x) a;
      }
