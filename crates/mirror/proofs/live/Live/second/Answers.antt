use Rattle.mirror.proofs.live.Live.second.Goals as goal

pub returns-then-t : goal.returns-then-t
returns-then-t c h d p bus byte = rw (h, c.if-rs-t.false, c.if-rw-t.false, c.in-Some.is, c.if-t.true) (c.read.ensures d p)
