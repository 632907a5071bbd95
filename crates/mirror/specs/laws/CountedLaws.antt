-- The answers that have a count, each at its count's place.
use Rattle.std.specs.Prelude.{◌≡◌, refl, [], ◌∷◌, map}
use Rattle.mirror.specs.Answer.{number_of, place_of}
use Rattle.mirror.specs.declared.answer.TheConstants.{COUNTED}

pub counted_places : map (λ a. place_of (number_of a)) COUNTED ≡ 0 ∷ 1 ∷ 2 ∷ 3 ∷ 4 ∷ 5 ∷ 6 ∷ 7 ∷ 8 ∷ []
counted_places = refl
