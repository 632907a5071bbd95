use Rattle.std.proofs.Common.{rules}
use Rattle.dots.specs.laws.TableLaws.{made_table}
use Rattle.picture.proofs.screen.codes.Goals as goal

pub returns : goal.returns
returns c = made_table _ _ _ _ 0 _ c.from_fn.ensures.items (λ k y q p h. search rules)
