use Rattle.desk.specs.laws.NumberLaws.{Reached}
use Rattle.desk.proofs.number.number_of.Given as goal

abbrev pub invariant-loop-digit : goal.invariant-loop-digit
invariant-loop-digit l = Reached l.word l.most l.value l.digit-index
