use Rattle.std.proofs.Common.{refl, sym, ◌∙◌}
use Rattle.std.proofs.lemmas.Bool.{false≢true}
use Rattle.mirror.proofs.live.Live.whole.Goals as goal
use Rattle.mirror.proofs.live.Live.whole.Goals.{else-rw-via-then-rw+else-not-rs, else-rw-via-else-rw}

pub returns-then-not-rs : goal.returns-then-not-rs
returns-then-not-rs c bus byte =
    rw (c.pass.ensures.0, c.pass.ensures.1, c.if-rw.true, c.if-not-rs.true, c.status-status.ensures c.args.display.now c.args.pattern.now) refl

pub returns-then-free : goal.returns-then-free
returns-then-free c bus byte =
    elim c.else-rw.branch [
      | else-rw-via-then-rw+else-not-rs w ↦
          rw (c.if-rw-2.true, w.if-not-rs.false, ← c.free.ensures, c.if-free.true, ← c.here.ensures) (c.read.ensures c.args.display.now c.args.pattern.now)
      | else-rw-via-else-rw w ↦ absurd (false≢true (sym w.if-rw.false ∙ c.if-rw-2.true))
    ]
