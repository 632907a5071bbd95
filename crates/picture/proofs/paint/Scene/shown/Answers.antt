-- Each way out is one law of the rows shown.
use Rattle.std.proofs.Common.{ℕ, List, sym, ap, ◌∙◌, set, not}
use Rattle.picture.specs.Pattern.{shape_of}
use Rattle.picture.specs.Picture.{cursor_row}
use Rattle.picture.specs.engine.Shown.{full}
use Rattle.picture.proofs.laws.ShownLaws.{shown_off, shown_away, shown_blink, shown_under, shown_bare}
use Rattle.picture.proofs.paint.Scene.shown.Goals as goal

pub returns-then-not-registers : goal.returns-then-not-registers
returns-then-not-registers c =
    let s = c.args.self.now in shown_off s.sheet s.font.now s.dark c.args.at.line c.args.at.position c.if-not-registers.true

pub returns-then-not-here : goal.returns-then-not-here
returns-then-not-here c =
    let s = c.args.self.now in
    c.shape-rows.ensures ∙ ap (shape_of s.sheet.pattern s.font.now) c.code_in.ensures
    ∙ shown_away s.sheet s.font.now s.dark c.args.at.line c.args.at.position c.if-not-registers.false (ap not (sym c.here.ensures ∙ c.if-not-here.true))

pub returns-then-registers-self : goal.returns-then-registers-self
returns-then-registers-self c =
    let s = c.args.self.now in
    shown_blink s.sheet s.font.now s.dark c.args.at.line c.args.at.position c.if-not-registers.false (ap not (sym c.here.ensures ∙ c.if-not-here.false)) c.if-registers-self.true

pub returns-then-registers : goal.returns-then-registers
returns-then-registers c =
    let s = c.args.self.now in
    ap (λ (l : List ℕ). set l cursor_row full) (c.shape-rows.ensures ∙ ap (shape_of s.sheet.pattern s.font.now) c.code_in.ensures)
    ∙ shown_under s.sheet s.font.now s.dark c.args.at.line c.args.at.position c.if-not-registers.false (ap not (sym c.here.ensures ∙ c.if-not-here.false)) c.if-registers-self.false c.if-registers.true

pub returns-else-registers : goal.returns-else-registers
returns-else-registers c =
    let s = c.args.self.now in
    c.shape-rows.ensures ∙ ap (shape_of s.sheet.pattern s.font.now) c.code_in.ensures
    ∙ shown_bare s.sheet s.font.now s.dark c.args.at.line c.args.at.position c.if-not-registers.false (ap not (sym c.here.ensures ∙ c.if-not-here.false)) c.if-registers-self.false c.if-registers.false
