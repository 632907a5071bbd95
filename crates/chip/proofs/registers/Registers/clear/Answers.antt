use Rattle.chip.proofs.registers.Registers.clear.Goals as goal

pub returns : goal.returns
returns c p = c.home.ensures _ p
