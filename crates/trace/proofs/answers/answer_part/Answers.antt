use Rattle.std.proofs.Common.{ℕ, arith, length-take, length-drop}
use Rattle.trace.specs.laws.AnswersLaws.{answered_takes, taken_within}
use Rattle.trace.proofs.answers.answer_part.Goals as goal

pub slice_bounds-rest-count : goal.slice_bounds-rest-count
slice_bounds-rest-count c = taken_within _ _ c.next-next.result c.next-next.ensures.is

pub slice_bounds-rest-start : goal.slice_bounds-rest-start
slice_bounds-rest-start c = omega (arith, taken_within _ _ c.next-next.result c.next-next.ensures.is)

pub loop-verdict-smaller : goal.loop-verdict-smaller
loop-verdict-smaller c =
    omega
    (arith, taken_within _ _ c.next-next.result c.next-next.ensures.is, answered_takes _ _ c.next-next.result c.in-Answered.verdict c.next-next.ensures.is c.in-Answered.is, length-take {A = ℕ}, length-drop {A = ℕ})
