-- Laws of a choice.
use Rattle.std.specs.Prelude.{◌≡◌, refl, Bool, true, false}
use Rattle.std.proofs.lemmas.Bool.{false≢true}
use Rattle.laws.specs.Pick.{pick}

-- a test that failed, and the rest
pub record Past (t rest : Bool) : Type 0 where
  pub here : t ≡ false
  pub later : rest ≡ true

-- tests of which each would end in false, where the whole is true
pub past : (t : Bool) {rest : Bool} → pick t false rest ≡ true → Past t rest
past true e = absurd (false≢true e)
past false e = record { here = refl; later = e }
