use Rattle.std.proofs.Common.{arith}
use Rattle.framing.specs.Frame.{num16}
use Rattle.framing.proofs.front.frame.Goals as goal

pub transfer-requires : goal.transfer-requires
unfolding num16
transfer-requires c =
    let h = c.from_le_bytes-head.ensures in
    let b = c.type_inv.log in
    record { fits = c.if-log-ge14.true; sized = omega (arith, h, b 0, b 1, b 2, b 3); told = omega (arith, h, b 0, b 1, b 2, b 3) }
