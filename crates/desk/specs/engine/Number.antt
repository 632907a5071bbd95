-- A number as its digits are read one by one.
use Rattle.std.specs.Prelude.{ℕ, ◌+◌, ◌-◌, ◌*◌, nat_lt, Option, Some, None}
use Rattle.laws.specs.Pick.{pick}
use Rattle.desk.specs.Number.{is_digit}

-- with one more digit; none where it is no digit, or where the number passes the greatest
abbrev pub then_of : ℕ → ℕ → ℕ → Option ℕ
then_of v b most = pick (is_digit b) (pick (nat_lt most (10 * v + (b - 48))) None (Some (10 * v + (b - 48)))) None
