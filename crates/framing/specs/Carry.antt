-- The bytes carried from one part of a log to the next.
use Rattle.std.specs.Prelude.{ℕ, ◌-◌, ◌||◌, List, [], ◌++◌, length, take}
use Rattle.laws.specs.Pick.{pick}
use Rattle.buffer.specs.Buffer.{held_of, buffer_of}
use Rattle.framing.specs.Frame.{record_size, no_length, outside_length, wants_more}
use Rattle.framing.specs.declared.carry.Carry.{Carry}
use Rattle.framing.specs.declared.carry.Filled.{Filled}

-- the largest record: 64 bytes and the length's own two
abbrev pub room : ℕ
room = 66

-- what a carry holds: all its bytes where its length says more
abbrev pub carried_of : Carry → List ℕ
carried_of c = held_of c.held

-- the one carry that holds these bytes, 0 after them
abbrev pub carry_of : List ℕ → Carry
carry_of s = record { held = buffer_of room s }

-- the bytes that may begin a record: none where they want no more
abbrev pub wanting_of : List ℕ → List ℕ
wanting_of s = pick (wants_more s) s []

-- how many bytes the record at the front wants: its length first, then all that this counts
unfoldable pub reach : List ℕ → ℕ
reach s = pick (no_length s || outside_length s) 2 (record_size s)

-- the bytes of a part that bring what is carried up to a count, and no more
abbrev pub up_to : ℕ → List ℕ → List ℕ → List ℕ
up_to to carried part = take (to - length carried) part

-- a carry with these bytes of the part, and how many they are
unfoldable pub topped_of : List ℕ → ℕ → List ℕ → Filled
topped_of carried to part =
    record { carry = carry_of (carried ++ up_to to carried part); taken = length (up_to to carried part) }

-- the bytes of a part that make the carried record whole, and never more
abbrev pub more : List ℕ → List ℕ → List ℕ
more carried part = up_to (reach (carried ++ part)) carried part

-- what a carry then holds
abbrev pub filled : List ℕ → List ℕ → List ℕ
filled carried part = carried ++ more carried part

-- a carry filled from a part
abbrev pub filled_of : List ℕ → List ℕ → Filled
filled_of carried part = topped_of carried (reach (carried ++ part)) part
