-- Words that name a chip, and words that don't, computed.
use Rattle.std.specs.Prelude.{◌≡◌, [], ◌∷◌, Some, None, refl}
use Rattle.desk.specs.Chips.{chip_named}

-- 6631, 6635
one_line : chip_named (0x36 ∷ 0x36 ∷ 0x33 ∷ 0x31 ∷ []) ≡ Some 31
one_line = refl

two_lines : chip_named (0x36 ∷ 0x36 ∷ 0x33 ∷ 0x35 ∷ []) ≡ Some 35
two_lines = refl

-- 6630; 663; 66351; 35; nothing
other : chip_named (0x36 ∷ 0x36 ∷ 0x33 ∷ 0x30 ∷ []) ≡ None
other = refl

shorter : chip_named (0x36 ∷ 0x36 ∷ 0x33 ∷ []) ≡ None
shorter = refl

longer : chip_named (0x36 ∷ 0x36 ∷ 0x33 ∷ 0x35 ∷ 0x31 ∷ []) ≡ None
longer = refl

by_number : chip_named (0x33 ∷ 0x35 ∷ []) ≡ None
by_number = refl

nothing : chip_named [] ≡ None
nothing = refl
