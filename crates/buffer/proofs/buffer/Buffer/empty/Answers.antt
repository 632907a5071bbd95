use Rattle.std.proofs.Common.{sym, ap, ℕ, replicate}
use Rattle.std.proofs.Math.Nat.{sub-zero}
use Rattle.buffer.specs.Buffer.{buffer_of}
use Rattle.buffer.proofs.buffer.Buffer.empty.Goals as goal

pub returns : goal.returns
unfolding buffer_of
returns g c =
    let room = g.row.ROOM in
    ap (λ (n : ℕ). record { bytes = replicate n 0; len = 0 }) (sym (sub-zero room))
