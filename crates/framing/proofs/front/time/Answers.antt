use Rattle.std.proofs.Common.{arith}
use Rattle.framing.specs.Frame.{num16, num64}
use Rattle.framing.proofs.front.time.Goals as goal

pub returns : goal.returns
unfolding num16 num64
returns c = omega (arith, c.from_le_bytes.ensures)
