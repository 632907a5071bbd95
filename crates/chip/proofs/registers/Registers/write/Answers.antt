use Rattle.std.proofs.Common.{ap, ◌∙◌, false}
use Rattle.chip.specs.Sheet.{sheet_of}
use Rattle.chip.specs.Step.{stepped, next_good, marked_at, followed}
use Rattle.chip.proofs.laws.StepLaws.{written_as}
use Rattle.chip.proofs.registers.Registers.write.Goals as goal

pub returns-in-Display : goal.returns-in-Display
returns-in-Display c =
    let a = c.args in
    let d = c.in-Display.d in
    let m = c.write.new.display in
    c.followed.ensures _ _ ∙ ap (followed a.self.follow) (c.mark.ensures _ _ ∙ ap (marked_at d m) (c.next_good-moved.ensures _ _ ∙ ap (next_good false) (c.step.ensures _ _))) ∙
    ap (λ x. followed a.self.follow (marked_at d x (next_good false (stepped a.self.up (sheet_of a.self x a.pattern.now))))) c.write.ensures ∙
    written_as _ _ _ c.in-Display.is

pub returns-in-Pattern : goal.returns-in-Pattern
returns-in-Pattern c =
    rw c.write-in-Pattern.ensures
    (c.followed-in-Pattern.ensures _ _ ∙ c.next_good-moved.ensures _ _ ∙ ap (next_good false) (c.step.ensures _ _) ∙ written_as _ _ _ c.in-Pattern.is)
