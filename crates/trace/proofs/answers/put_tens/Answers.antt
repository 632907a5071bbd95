use Rattle.std.proofs.Common.{◌<◌, lt-ltb, arith}
use Rattle.desk.specs.laws.PageLaws.{puts_none}
use Rattle.trace.proofs.answers.put_tens.Goals as goal

pub returns-else-number-ge10 : goal.returns-else-number-ge10
returns-else-number-ge10 c = let one_digit : c.args.number < 10 = omega arith in rw (lt-ltb _ _ one_digit) (puts_none _)
