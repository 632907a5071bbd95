-- One step round a ring of n places: what an address and the shift do. Stated once over n.
use Rattle.std.specs.Prelude.{ℕ, ◌+◌, ◌-◌, ◌%◌, Bool}
use Rattle.laws.specs.Pick.{pick}

-- one place up: the last is followed by the first
abbrev pub up : ℕ → ℕ → ℕ
up n a = (a + 1) % n

-- one place down: the first is followed by the last
abbrev pub down : ℕ → ℕ → ℕ
down n a = (a + (n - 1)) % n

-- one place, up where the test is true
abbrev pub moved : ℕ → Bool → ℕ → ℕ
moved n rising a = pick rising (up n a) (down n a)
