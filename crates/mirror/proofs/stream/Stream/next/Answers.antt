use Rattle.std.proofs.Common.{refl, sym, ◌∙◌}
use Rattle.mirror.specs.laws.StreamLaws.{has_fed}
use Rattle.mirror.specs.laws.NextLaws.{none_refused, next_refused, stopped_over, next_stops, next_goes, replies}
use Rattle.mirror.proofs.stream.Stream.next.Goals as goal

pub returns-then-is_some : goal.returns-then-is_some
returns-then-is_some c = replies _ _ _ (next_refused _ _ (sym c.is_some.ensures ∙ c.if-is_some.true))

pub returns-then-self : goal.returns-then-self
returns-then-self c = replies _ _ _ (rw c.stopped.ensures (stopped_over _ _ (none_refused _ (sym c.is_some.ensures ∙ c.if-is_some.false)) c.if-self.true))

pub returns-then-r-eq0 : goal.returns-then-r-eq0
returns-then-r-eq0 c =
    let a = c.args in
    let f = has_fed a.self a.part.now _ _ c.gathered-filled.ensures c.bytes-held.ensures in
    replies _ _ _
    (rw c.stopped-then-r-eq0.ensures
    (next_stops f (record { heard = none_refused _ (sym c.is_some.ensures ∙ c.if-is_some.false); unended = c.if-self.false }) _ c.turned-r.ensures c.if-r-eq0.true _ c.rest.ensures _ refl))

pub returns : goal.returns
returns c =
    let a = c.args in
    let f = has_fed a.self a.part.now _ _ c.gathered-filled.ensures c.bytes-held.ensures in
    replies _ _ _
    (rw (c.rest-2.ensures, c.count.ensures)
    (next_goes f (record { heard = none_refused _ (sym c.is_some.ensures ∙ c.if-is_some.false); unended = c.if-self.false }) _ c.turned-r.ensures c.if-r-eq0.false))
