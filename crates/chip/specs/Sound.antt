-- The sheet's part of soundness (document 01, "The panel"; of the chip and the bits of the written places, document 02, wishes 1 and 3).
use Rattle.std.specs.Prelude.{ℕ, Bool, false, not, List, drop, ltb, leb, eqb}
use Rattle.std.specs.List.{list_all}
use Rattle.laws.specs.Pick.{pick}
use Rattle.chip.specs.Sizes.{is_known, places_of, positions, display_size, pattern_size, row_end, function_end, space}
use Rattle.chip.specs.Written.{written_in}
use Rattle.chip.specs.declared.address.Address.{Address}
use Rattle.chip.specs.declared.address.Address.TheVariants.{Display, Pattern}
use Rattle.chip.specs.declared.sheet.Sheet.{Sheet}

-- the address lies in its memory
abbrev pub address_fits : ℕ → Address → Bool
address_fits chip (Display d) = ltb d.0 (places_of chip)
address_fits chip (Pattern p) = ltb p.0 pattern_size

-- display memory past the chip's own places is 20h
abbrev pub blank_past : ℕ → List ℕ → Bool
blank_past chip memory = list_all (λ x. eqb x space) (drop (places_of chip) memory)

-- every pattern entry has five bits
abbrev pub pattern_fits : List ℕ → Bool
pattern_fits entries = list_all (λ x. ltb x row_end) entries

-- the chip is known; address, shift, Function Set bits and pattern entries lie in range; display memory past the chip's own is 20h;
-- the bits of the written places are the walk's answer
abbrev pub sound_sheet : Sheet → Bool
sound_sheet s =
    pick (not (is_known s.registers.chip)) false
    (pick (not (address_fits s.registers.chip s.registers.address)) false
    (pick (leb positions s.registers.shift) false
    (pick (leb function_end s.registers.function) false
    (pick (not (blank_past s.registers.chip s.display)) false
    (pick (not (eqb s.registers.written (written_in display_size s.display))) false (pattern_fits s.pattern))))))
