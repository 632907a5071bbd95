-- A run in parts, and the records of a run.
use Rattle.std.specs.Prelude.{◌≡◌, refl, List, [], ◌∷◌, ◌++◌}
use Rattle.std.proofs.Common.{ap}
use Rattle.striking.specs.Machine.{Machine, answered, events, run, final}

module _ {S E A : Type 0} (m : Machine S E A) where
  -- a run on a log is the runs on its parts, the second from where the first ends
  pub run_append : (s : S) (a b : List E) → run m s (a ++ b) ≡ run m s a ++ run m (final m s a) b
  run_append s [] b = refl
  run_append s (e ∷ a) b = ap (λ l. answered e (m.step s e).answer ∷ l) (run_append (m.step s e).state a b)

  pub final_append : (s : S) (a b : List E) → final m s (a ++ b) ≡ final m (final m s a) b
  final_append s [] b = refl
  final_append s (e ∷ a) b = final_append (m.step s e).state a b

  -- a run answers every record of the log, once each, in order
  pub run_events : (s : S) (log : List E) → events (run m s log) ≡ log
  run_events s [] = refl
  run_events s (e ∷ log) = ap (λ l. e ∷ l) (run_events (m.step s e).state log)
