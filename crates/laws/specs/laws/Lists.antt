-- Laws of parts of a list.
use Rattle.std.specs.Prelude.{ℕ, ◌-◌, ◌≡◌, List, length, take, drop}
use Rattle.std.proofs.Common.{arith, length-drop, take_all}

-- the part of a list from a place to the end, as a slice `&s[n..]` has it, is all that is left there
pub all_left : {A : Type 0} (s : List A) (n : ℕ) → take (length s - n) (drop n s) ≡ drop n s
all_left s n = take_all (length s - n) (drop n s) (omega (arith, length-drop n s))
