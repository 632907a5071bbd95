-- The bytes so far stand on the page.
use Rattle.std.proofs.Common.{take}
use Rattle.desk.specs.Page.{Puts}
use Rattle.desk.proofs.page.Page.put_each.Given as goal

abbrev pub invariant-loop-byte : goal.invariant-loop-byte
invariant-loop-byte l = Puts (take l.byte-index l.bytes) l.initial.self l.self
