-- A number among the arguments: decimal digits alone, at least one, and at most the greatest that is taken.
use Rattle.std.specs.Prelude.{ℕ, ◌+◌, ◌-◌, ◌*◌, Bool, true, false, not, List, [], ◌∷◌, nat_lt, Option, Some, None}
use Rattle.laws.specs.Pick.{pick}

-- 0 to 9 are 48 to 57
abbrev pub is_digit : ℕ → Bool
is_digit b = pick (nat_lt b 48) false (not (nat_lt 57 b))

-- digits alone
unfoldable pub all_digits : List ℕ → Bool
all_digits [] = true
all_digits (b ∷ s) = pick (is_digit b) (all_digits s) false

-- what digits come to after a number: each is worth a tenth of the one before it
unfoldable pub value_after : ℕ → List ℕ → ℕ
value_after v [] = v
value_after v (b ∷ s) = value_after (10 * v + (b - 48)) s

-- digits after a number, none where they pass the greatest
abbrev pub number_after : ℕ → List ℕ → ℕ → Option ℕ
number_after v s most = pick (all_digits s) (pick (nat_lt most (value_after v s)) None (Some (value_after v s))) None

-- a word without a digit is no number
unfoldable pub decimal_of : List ℕ → ℕ → Option ℕ
decimal_of [] most = None
decimal_of (b ∷ s) most = number_after 0 (b ∷ s) most
