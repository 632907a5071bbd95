use Rattle.std.proofs.Common.{ap, ◌∙◌, true}
use Rattle.chip.specs.Step.{next_good}
use Rattle.chip.proofs.registers.Registers.read.Goals as goal

pub returns : goal.returns
returns c d p = c.followed.ensures d p ∙ c.next_good.ensures d p ∙ ap (next_good true) (c.step.ensures d p)
