-- What a machine has to show for striking to hold of it: one relation and four laws, each about one step at most.
-- While records wait, it is not known yet whether the struck log holds them. So beside the whole log's state w run two others, and
-- the struck log's state is one of them: k, in which the ones that wait are kept, or s, in which they are struck.
-- For a chip with halves, k is w but for an earlier clock and a half marked ignored, and s is w but for an earlier clock and any half.
use Rattle.std.specs.Prelude.{◌≡◌}
use Rattle.striking.specs.Machine.{Own, stays, goes, waits, Others, keeps, strikes, leaves, Out, Machine}

-- k and s once a record has settled the ones that wait, or has left them waiting
abbrev pub if_kept : {S : Type 0} → Others → S → S → S
if_kept keeps k s = k
if_kept strikes k s = s
if_kept leaves k s = k

abbrev pub if_struck : {S : Type 0} → Others → S → S → S
if_struck keeps k s = k
if_struck strikes k s = s
if_struck leaves k s = s

-- a record that keeps others stays itself: else it would be missed the second time
abbrev pub KeeperStays : Own → Others → Type 0
KeeperStays own keeps = own ≡ stays
KeeperStays own strikes = Unit {0}
KeeperStays own leaves = Unit {0}

module _ {S E A : Type 0} (m : Machine S E A) (Beside : S → S → S → Type 0) where
  -- k and s follow an event that came to o. One that stays reaches both, and both answer it as w did; one that goes reaches neither;
  -- one that waits reaches k, which answers it as w did
  abbrev pub Follows : Own → E → Out S A → S → S → Type 0
  Follows stays e o k s =
      ((m.step k e).answer ≡ o.answer) × ((m.step s e).answer ≡ o.answer) × Beside o.state (m.step k e).state (m.step s e).state
  Follows goes e o k s = Beside o.state k s
  Follows waits e o k s = ((m.step k e).answer ≡ o.answer) × Beside o.state (m.step k e).state s

  -- one event that came to o: first the ones that wait are settled, or left, then k and s follow
  pub record Turn (e : E) (o : Out S A) (k s : S) : Type 0 where
    pub follows : Follows (m.sort e o.answer).own e o (if_kept (m.sort e o.answer).others k s) (if_struck (m.sort e o.answer).others k s)

-- The laws: all that a machine has to show
pub record Laws {S E A : Type 0} (m : Machine S E A) : Type 1 where
  -- w, k and s run beside each other
  pub Beside : S → S → S → Type 0
  -- where nothing waits, all three may be one
  pub begins : (w : S) → m.Idle w → Beside w w w
  -- after any event, k and s have followed w
  pub turns : (w k s : S) (e : E) → Beside w k s → Turn m Beside e (m.step w e) k s
  -- at the end, where the ones that wait are kept, k is w but for its clock and whatever waits
  pub ends : (w k s : S) → Beside w k s → m.bare k ≡ m.bare w
  -- a record that keeps others stays
  pub keeper_stays : (e : E) (a : A) → KeeperStays (m.sort e a).own (m.sort e a).others
