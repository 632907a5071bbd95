use Rattle.std.proofs.Common.{sym, ◌∙◌}
use Rattle.mirror.specs.laws.WrittenLaws.{tells_kept}
use Rattle.mirror.proofs.panel.Panel.written.Goals as goal

pub returns : goal.returns
returns c = tells_kept c.args.self (sym c.sound.ensures ∙ c.if-not-sound.false)
