use Rattle.std.proofs.Common.{ap, ◌∙◌, false, true}
use Rattle.chip.specs.Step.{next_good}
use Rattle.chip.proofs.registers.Registers.act.Goals as goal

pub returns-in-Clear : goal.returns-in-Clear
returns-in-Clear c p = rw c.in-Clear.is (c.next_good.ensures _ p ∙ ap (next_good false) (c.clear.ensures p))

pub returns-in-Home : goal.returns-in-Home
returns-in-Home c p = rw c.in-Home.is (c.next_good-in-Home.ensures _ p ∙ ap (next_good false) (c.home.ensures _ p))

pub returns-in-Entry : goal.returns-in-Entry
returns-in-Entry c p = rw c.in-Entry.is (c.next_good-in-Entry.ensures _ p ∙ ap (next_good false) (c.entry_mode.ensures _ p))

pub returns-in-Screen : goal.returns-in-Screen
returns-in-Screen c p = rw c.in-Screen.is (c.next_good-in-Screen.ensures _ p ∙ ap (next_good false) (c.screen.ensures _ p))

pub returns-in-Move : goal.returns-in-Move
returns-in-Move c p =
    rw (c.in-Move.is, ← c.in_display.ensures)
    (c.next_good-in-Move.ensures _ p ∙ ap (next_good c.in_display.result) (c.step.ensures _ p))

pub returns-in-Shift : goal.returns-in-Shift
returns-in-Shift c p = rw c.in-Shift.is (c.shift_by_one.ensures _ p)

pub returns-in-Function : goal.returns-in-Function
returns-in-Function c p = rw c.in-Function.is (c.next_good-in-Function.ensures _ p ∙ ap (next_good false) (c.function_set.ensures _ p))

pub returns-in-Set : goal.returns-in-Set
returns-in-Set c p = rw c.in-Set.is (c.next_good-in-Set.ensures _ p ∙ ap (next_good true) (c.set.ensures _ p))
