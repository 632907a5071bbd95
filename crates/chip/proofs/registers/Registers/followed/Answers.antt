use Rattle.chip.proofs.registers.Registers.followed.Goals as goal

pub returns-then-shifts : goal.returns-then-shifts
returns-then-shifts c d p = rw c.if-shifts.true (c.shift_by_one.ensures d p)
