-- What holds while a record is read, and what the reach of a carry is.
use Rattle.std.specs.Prelude.{ℕ, ◌≤◌, ◌≡◌, List, length}
use Rattle.framing.specs.Frame.{kind_of, record_size}
use Rattle.framing.specs.Carry.{room, reach}

-- what holds before a record's body is read: its size and kind are known, and all its bytes are there
pub record Whole (s : List ℕ) (size kind : ℕ) : Type 0 where
  pub fits : size ≤ length s
  pub sized : record_size s ≡ size
  pub told : kind_of s ≡ kind

-- what the reach of a carry is: it fits a carry
pub record Reach (s : List ℕ) (r : ℕ) : Type 0 where
  pub is : r ≡ reach s
  pub small : r ≤ room
