use Rattle.std.proofs.Common.{rules}
use Rattle.dots.specs.laws.TableLaws.{is_table}
use Rattle.wall.proofs.codes.characters.Goals as goal

pub returns : goal.returns
returns c = is_table _ _ _ 0 c.map.ensures.items.long (λ k p. let h = c.map.ensures.items.at k 0 0 p in search rules)
