use Rattle.std.proofs.Common.{◌≡◌, ap, ◌∙◌, rules}
use Rattle.std.specs.List.{sum_by}
use Rattle.std.specs.Slice.Iter.{iter_rest}
use Rattle.std.specs.Int.Count.{ones}
use Rattle.dots.specs.engine.Ones.{ones_of}
use Rattle.dots.specs.laws.SumLaws.{sum_list}
use Rattle.picture.proofs.count.ones.Goals as goal

pub returns : goal.returns
returns c =
    let e : c.sum-lit.result ≡ sum_by ones (iter_rest c.iter.result) = search rules in
    e ∙ sum_list ones (iter_rest c.iter.result) ∙ ap ones_of c.iter.ensures.rest
