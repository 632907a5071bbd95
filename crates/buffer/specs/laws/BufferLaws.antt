-- A buffer holds what it was made of.
use Rattle.std.specs.Prelude.{ℕ, ◌-◌, ◌≡◌, List, length, replicate}
use Rattle.std.proofs.Math.Seq.{take-append_seam}
use Rattle.buffer.specs.Buffer.{held_of, buffer_of}

pub held : (room : ℕ) (s : List ℕ) → held_of (buffer_of room s) ≡ s
unfolding buffer_of
held room s = take-append_seam s (replicate (room - length s) 0)
