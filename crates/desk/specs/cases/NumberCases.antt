-- Words that are numbers, and words that are none, computed.
use Rattle.std.specs.Prelude.{◌≡◌, [], ◌∷◌, Some, None, refl}
use Rattle.desk.specs.Number.{all_digits, value_after, decimal_of}

-- 65535 and 65536, where 65535 is the greatest
greatest : decimal_of (54 ∷ 53 ∷ 53 ∷ 51 ∷ 53 ∷ []) 65535 ≡ Some 65535
unfolding decimal_of all_digits value_after
greatest = refl

above : decimal_of (54 ∷ 53 ∷ 53 ∷ 51 ∷ 54 ∷ []) 65535 ≡ None
unfolding decimal_of all_digits value_after
above = refl

-- no digit at all; 007; +1
empty : decimal_of [] 65535 ≡ None
unfolding decimal_of
empty = refl

padded : decimal_of (48 ∷ 48 ∷ 55 ∷ []) 65535 ≡ Some 7
unfolding decimal_of all_digits value_after
padded = refl

signed : decimal_of (43 ∷ 49 ∷ []) 65535 ≡ None
unfolding decimal_of all_digits value_after
signed = refl
