use Rattle.dots.specs.Table.{table}
use Rattle.picture.proofs.pattern.patterns.Goals as goal

pub returns : goal.returns
unfolding table
returns c = rw (c.pattern.ensures, c.pattern-2.ensures, c.pattern-3.ensures, c.pattern-4.ensures)
