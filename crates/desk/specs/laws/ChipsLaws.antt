-- Two words are found the same exactly where they are equal.
use Rattle.std.specs.Prelude.{◌≡◌, ℕ, true, false, List, ◌≢◌}
use Rattle.std.proofs.lemmas.Bool.{false_from_ne_true}
use Rattle.std.proofs.lemmas.Slice.Eq.{bytes_eq-Decides}
use Rattle.desk.specs.Chips.{same_word}

pub equal_same : (s t : List ℕ) → s ≡ t → same_word s t ≡ true
equal_same s t = (bytes_eq-Decides s t).1

pub other_same : (s t : List ℕ) → (s ≢ t) → same_word s t ≡ false
other_same s t h = false_from_ne_true _ (λ e. h ((bytes_eq-Decides s t).0 e))
