use Rattle.desk.specs.Page.{Puts}
use Rattle.wall.specs.Draw.{strung}
use Rattle.wall.specs.Written.{place_bytes}
use Rattle.wall.proofs.written.put_each.Given as goal

abbrev pub invariant-loop-place : goal.invariant-loop-place
invariant-loop-place l = Puts (strung (place_bytes l.bits) l.place) l.initial.page l.page
