-- Where nothing is refused, the painting is what its steps make.
use Rattle.std.proofs.Common.{sym, ap, refl, ◌∙◌, not}
use Rattle.picture.proofs.laws.PaintLaws.{paints_lines}
use Rattle.picture.proofs.paint.paint.Goals as goal

pub returns : goal.returns
returns c =
    let a = c.args in
    let painted = rw (c.new.ensures.sheet_is, c.new.ensures.font_is, c.new.ensures.dark_is, c.in_ok-font.ensures.1) at c.paint_on.ensures in
    paints_lines a.panel a.font.now a.dark a.frame.now (ap not (sym c.sound.ensures ∙ c.if-not-sound.false)) c.in_ok-font.ensures.0
    (c.if-frame-frame_size.false ∙ c.frame_size.ensures.is) _ _ _ refl painted c.ones.ensures
