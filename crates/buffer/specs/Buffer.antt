-- Bytes held in a room for more.
use Rattle.std.specs.Prelude.{ℕ, ◌+◌, ◌-◌, List, ◌++◌, length, take, set, replicate, leb, Result, Ok, Err}
use Rattle.laws.specs.Pick.{pick}
use Rattle.buffer.specs.declared.buffer.Buffer.{Buffer}
use Rattle.buffer.specs.declared.buffer.Full.{Full}

-- what a buffer holds: all its bytes where its length says more
abbrev pub held_of : {room : ℕ} → Buffer room → List ℕ
held_of b = take b.len b.bytes

-- the one buffer that holds these bytes, 0 after them
unfoldable pub buffer_of : (room : ℕ) → List ℕ → Buffer room
buffer_of room s = record { bytes = s ++ replicate (room - length s) 0; len = length s }

-- one byte more, where there is room
abbrev pub pushed : {room : ℕ} → ℕ → Buffer room → Buffer room
pushed {room} byte b = pick (leb room b.len) b (record { bytes = set b.bytes b.len byte; len = b.len + 1 })

-- whether there was
abbrev pub push_answer : {room : ℕ} → Buffer room → Result (Unit {0}) Full
push_answer {room} b = pick (leb room b.len) (Err record {}) (Ok tt)
