-- A dot as a bit, and that it is one.
use Rattle.std.specs.Prelude.{ℕ, ◌<◌, ◌≡◌, List}
use Rattle.laws.specs.Bit.{one}
use Rattle.picture.specs.Frame.{lit_at}

pub record DotBit (chip : ℕ) (f : List ℕ) (r x bit : ℕ) : Type 0 where
  pub is : bit ≡ one (lit_at chip f r x)
  pub small : bit < 2
