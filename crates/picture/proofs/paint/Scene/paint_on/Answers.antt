use Rattle.std.proofs.Common.{◌∙◌, rules}
use Rattle.picture.proofs.paint.Scene.paint_on.Goals as goal

pub returns : goal.returns
returns c = search rules ∙ (rw (c.clear.ensures.frame_is, c.clear.ensures.wired_as, c.of-wiring.ensures) at c.put_lines.ensures.frame_is)
