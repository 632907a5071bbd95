use Rattle.std.proofs.Common.{refl, sym, ap, ◌∙◌}
use Rattle.mirror.specs.laws.ReadLaws.{reading_stops, reading_steps}
use Rattle.mirror.specs.declared.record.Recorded.{Recorded}
use Rattle.mirror.proofs.totals.Totals.consume.Goals as goal

pub returns-then-used-eq0 : goal.returns-then-used-eq0
returns-then-used-eq0 c =
    let n = c.next.ensures in
    let u = c.used-used.ensures ∙ ap (λ (r : Recorded). r.used) n.answer in
    rw (c.totals-totals.ensures, n.totals) (reading_stops c.loop-reading.invariant _ refl (sym u ∙ c.if-used-eq0.true))

pub loop-reading-preserved : goal.loop-reading-preserved
loop-reading-preserved c =
    let n = c.next.ensures in
    let u = c.used-used.ensures ∙ ap (λ (r : Recorded). r.used) n.answer in
    rw (n.totals, u) (reading_steps c.loop-reading.invariant _ refl (λ z. c.if-used-eq0.false (u ∙ z)))
