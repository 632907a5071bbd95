use Rattle.std.proofs.Common.{lt-ltb}
use Rattle.picture.specs.Pattern.{font_start}
use Rattle.picture.proofs.laws.ShownLaws.{own_pattern}
use Rattle.picture.proofs.paint.Scene.shape.Goals as goal

pub returns-then-code-lt-FONT_START : goal.returns-then-code-lt-FONT_START
returns-then-code-lt-FONT_START c =
    let s = c.args.self.now in
    rw (lt-ltb c.args.code font_start c.if-code-lt-FONT_START.true) (own_pattern s.sheet.pattern s.own c.args.code s.own_is)
