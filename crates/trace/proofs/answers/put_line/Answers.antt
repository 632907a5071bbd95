use Rattle.desk.specs.laws.PageLaws.{puts_then}
use Rattle.trace.proofs.answers.put_line.Goals as goal

pub returns : goal.returns
returns c = puts_then c.put_tens.ensures (rw (c.hex-digits.ensures, c.digit.ensures) at c.put.ensures)
