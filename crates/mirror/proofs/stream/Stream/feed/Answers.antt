use Rattle.std.proofs.Common.{◌+◌, ap, sym, ◌∙◌, arith}
use Rattle.laws.specs.laws.Lists.{all_left}
use Rattle.mirror.specs.engine.Reading.{consumed_of}
use Rattle.mirror.specs.Stream.{rested_of}
use Rattle.mirror.specs.laws.StreamLaws.{feed_over, has_fed, feed_stops, feed_goes}
use Rattle.mirror.proofs.stream.Stream.feed.Goals as goal

pub returns-then-self : goal.returns-then-self
returns-then-self c = sym (feed_over _ _ c.if-self.true)

pub returns-then-first-eq0 : goal.returns-then-first-eq0
returns-then-first-eq0 c =
    let a = c.args in
    let f = has_fed a.self a.part.now _ _ c.gathered-filled.ensures c.bytes-held.ensures in
    c.rest.ensures ∙ feed_stops f c.if-self.false _ c.consume-first.ensures c.if-first-eq0.true

pub slice_bounds-rest-count : goal.slice_bounds-rest-count
slice_bounds-rest-count c =
    let a = c.args in
    let f = has_fed a.self a.part.now _ _ c.gathered-filled.ensures c.bytes-held.ensures in
    let k = c.consume-second in
    let o =
    feed_goes f c.if-self.false _ c.consume-first.ensures c.if-first-eq0.false _
    (k.ensures ∙ ap (consumed_of c.consume-first.result.totals) (all_left a.part.now c.gathered-filled.result.taken)) in
    omega (arith, o.within)

pub slice_bounds-rest-start : goal.slice_bounds-rest-start
slice_bounds-rest-start c =
    let a = c.args in
    let f = has_fed a.self a.part.now _ _ c.gathered-filled.ensures c.bytes-held.ensures in
    let k = c.consume-second in
    let o =
    feed_goes f c.if-self.false _ c.consume-first.ensures c.if-first-eq0.false _
    (k.ensures ∙ ap (consumed_of c.consume-first.result.totals) (all_left a.part.now c.gathered-filled.result.taken)) in
    omega (arith, o.within)

pub returns : goal.returns
returns c =
    let a = c.args in
    let f = has_fed a.self a.part.now _ _ c.gathered-filled.ensures c.bytes-held.ensures in
    let k = c.consume-second in
    let o =
    feed_goes f c.if-self.false _ c.consume-first.ensures c.if-first-eq0.false _
    (k.ensures ∙ ap (consumed_of c.consume-first.result.totals) (all_left a.part.now c.gathered-filled.result.taken)) in
    c.rest-2.ensures ∙ ap (rested_of a.self k.result.totals) (all_left a.part.now (c.gathered-filled.result.taken + k.result.at)) ∙ o.is
