use Rattle.std.proofs.Common.{rules, length, ◌≡◌, length-append, arith}
use Rattle.std.proofs.lemmas.Slice.Zip.{zip_turn, zip_end}
use Rattle.mirror.specs.declared.answer.Answer.TheVariants.{Taken}
use Rattle.mirror.specs.declared.answer.TheConstants.{COUNTED}
use Rattle.wall.specs.laws.StatusLaws.{counts_more, just, nine_counts, some_then}
use Rattle.wall.proofs.status.put_answers.Goals as goal

pub loop-answer-preserved : goal.loop-answer-preserved
loop-answer-preserved c =
    let l = c.loop-answer in
    let t = zip_turn COUNTED c.args.counts l.yielded c.into_iter-answer-iterator.result l.answer-iterator c.next.new.self c.next.result (search rules) (search rules) l.yielded_by _ c.in-Some.is c.next.ensures.steps in
    rw length-append (counts_more _ _ l.invariant (rw (t.2 Taken, t.3 0) at c.put_count.ensures))

pub returns : goal.returns
returns c =
    let l = c.loop-answer in
    let e = zip_end COUNTED c.args.counts l.yielded c.into_iter-answer-iterator.result l.answer-iterator c.next.new.self c.next.result (search rules) (search rules) l.yielded_by c.in-None.is c.next.ensures.steps in
    let n : length l.yielded ≡ 9 = omega (arith, e) in
    some_then (just c.put.ensures) (nine_counts c.args.counts (some_then (rw n at l.invariant) (just c.put-2.ensures)))
