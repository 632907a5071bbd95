use Rattle.std.proofs.Common.{refl}
use Rattle.mirror.proofs.live.Live.read.Goals as goal

pub returns-then-was : goal.returns-then-was
returns-then-was c d p = rw (c.done.ensures.0, c.done.ensures.1, c.read-next.ensures d p, c.if-was.true) refl

pub returns : goal.returns
returns c d p = rw (c.done-2.ensures.0, c.done-2.ensures.1, c.read-next.ensures d p, c.if-was.false) refl
