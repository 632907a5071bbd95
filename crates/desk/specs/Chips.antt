-- A chip's name among the arguments: 6631 is the NJU6631A, 6635 the NJU6635, and no other word is one.
use Rattle.std.specs.Prelude.{ℕ, Bool, List, [], ◌∷◌, Option, Some, None}
use Rattle.std.specs.Str.{bytes_eq}
use Rattle.laws.specs.Pick.{pick}
use Rattle.chip.specs.Sizes.{one_line, two_lines}

-- the same bytes in the same order
abbrev pub same_word : List ℕ → List ℕ → Bool
same_word = bytes_eq

-- the two names, digit by digit: 0 to 9 are 48 to 57
abbrev pub name6631 : List ℕ
name6631 = 54 ∷ 54 ∷ 51 ∷ 49 ∷ []

abbrev pub name6635 : List ℕ
name6635 = 54 ∷ 54 ∷ 51 ∷ 53 ∷ []

abbrev pub chip_named : List ℕ → Option ℕ
chip_named word = pick (same_word word name6631) (Some one_line) (pick (same_word word name6635) (Some two_lines) None)
