use Rattle.std.proofs.Common.{[], ◌∷◌}
use Rattle.desk.specs.Page.{Puts}
use Rattle.wall.specs.Draw.{strung}
use Rattle.wall.proofs.draw.put_edge.Given as goal

abbrev pub invariant-loop : goal.invariant-loop
invariant-loop l = Puts (strung (λ x. 45 ∷ []) l.counter) l.initial.page l.page
