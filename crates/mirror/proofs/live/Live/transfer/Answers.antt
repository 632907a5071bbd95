use Rattle.std.proofs.Common.{rules, sym, ◌∙◌, Some, None}
use Rattle.mirror.specs.engine.Live.{panel_of}
use Rattle.mirror.specs.laws.ActsLaws.{finished, rested, begun, ended_pair}
use Rattle.mirror.proofs.live.Live.transfer.Goals as goal

pub returns-in-Some : goal.returns-in-Some
returns-in-Some c =
    let a = c.args in
    let t = a.t in
    c.finish.ensures t.«rw» t.«data»
    ∙ finished t.time t.rs t.«rw» t.«data» (panel_of a.self.now a.display.now a.pattern.now) _ (sym c.completed.ensures ∙ c.in-Some.is)

pub returns-then-self : goal.returns-then-self
returns-then-self c =
    let a = c.args in
    let t = a.t in
    c.whole.ensures t.«data» _
    ∙ rested t.time t.rs t.«rw» t.«data» (panel_of a.self.now a.display.now a.pattern.now) (sym c.completed.ensures ∙ c.in_default.is) c.if-self.true

pub returns-in-Empty : goal.returns-in-Empty
returns-in-Empty c =
    let a = c.args in
    let t = a.t in
    c.first.ensures _ ∙ begun t.time t.rs t.«rw» t.«data» (panel_of a.self.now a.display.now a.pattern.now) c.if-self.false c.in-Empty.is

-- what is promised of a second half is found and not named by its call: another call in its place fails for what it comes to
pub returns-in-Ignored : goal.returns-in-Ignored
returns-in-Ignored c =
    let t = c.args.t in
    let h = c.in-Ignored in
    ended_pair t.time t.rs t.«rw» t.«data» _ _ _ _ _ h.rs h.«rw» None (search rules) (sym c.completed.ensures ∙ c.in_default.is) c.if-self.false h.is

pub returns-in-Waiting : goal.returns-in-Waiting
returns-in-Waiting c =
    let t = c.args.t in
    let h = c.in-Waiting in
    ended_pair t.time t.rs t.«rw» t.«data» _ _ _ _ _ h.rs h.«rw» (Some h.nibble) (search rules) (sym c.completed.ensures ∙ c.in_default.is) c.if-self.false h.is
