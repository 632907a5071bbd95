use Rattle.std.proofs.Common.{arith, ap, ◌∙◌, length, length-take}
use Rattle.buffer.specs.declared.buffer.Buffer.{Buffer}
use Rattle.framing.specs.Carry.{carried_of}
use Rattle.framing.specs.laws.CarryLaws.{topped_held}
use Rattle.framing.proofs.carry.Carry.topped.Goals as goal

pub returns : goal.returns
returns c =
    let n = c.min-taken.result in
    let s = carried_of c.args.self in
    ap (λ (b : Buffer 66). record { carry = record { held = b }; taken = n }) c.extend.ensures
    ∙ topped_held s c.args.part.now c.args.to n c.requires (omega (arith, length-take c.args.self.held.len c.args.self.held.bytes)) (omega (arith, ap length c.bytes.ensures))
