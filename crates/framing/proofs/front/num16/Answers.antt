use Rattle.std.proofs.Common.{arith}
use Rattle.framing.specs.Frame.{num16}
use Rattle.framing.proofs.front.num16.Goals as goal

pub returns : goal.returns
unfolding num16
returns c = omega (arith, c.from_le_bytes.ensures)
