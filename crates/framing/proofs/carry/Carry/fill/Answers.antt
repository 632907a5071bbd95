use Rattle.std.proofs.Common.{ℕ, ap, ◌∙◌, ◌++◌}
use Rattle.framing.specs.declared.carry.Filled.{Filled}
use Rattle.framing.specs.Carry.{carried_of, reach, up_to, topped_of}
use Rattle.framing.specs.laws.CarryLaws.{carried, reach_start}
use Rattle.framing.proofs.carry.Carry.fill.Goals as goal

pub returns : goal.returns
unfolding topped_of
returns c =
    let s = carried_of c.args.self in
    let p = c.args.part.now in
    c.topped-2.ensures
    ∙ ap (λ (to : ℕ). topped_of s to p)
    (c.reach-to.ensures.is
    ∙ ap (λ (f : Filled). reach (carried_of f.carry)) c.topped.ensures
    ∙ ap reach (carried (s ++ up_to 2 s p))
    ∙ reach_start s p)
