use Rattle.std.proofs.Common.{refl}
use Rattle.mirror.proofs.live.Live.first.Goals as goal

pub returns-then-not-rs : goal.returns-then-not-rs
returns-then-not-rs c byte =
    rw (c.offer.ensures.state, c.offer.ensures.said, c.if-rw.true, c.if-not-rs.true, c.status-status.ensures c.args.display.now c.args.pattern.now) refl
