-- Mirrored glass, worked out by hand from the wish: with 20h blank in the font, on one line and on two.
use Rattle.std.specs.Prelude.{ℕ, ◌≡◌, refl, false, List, [], ◌∷◌, ◌++◌, replicate}
use Rattle.laws.specs.Bit.{pack}
use Rattle.dots.specs.Table.{table, sum}
use Rattle.dots.specs.Landing.{dots_frame, count_of}
use Rattle.chip.specs.Sizes.{one_line, two_lines}
use Rattle.chip.specs.Sheet.{fresh_sheet}
use Rattle.chip.specs.Step.{obeyed, written}
use Rattle.chip.specs.declared.sheet.Sheet.{Sheet}
use Rattle.picture.specs.Pattern.{font_size}
use Rattle.picture.specs.Mode.{glass_for}
use Rattle.picture.specs.Picture.{lit}

-- the frame of a sheet, with the blink not dark, and how many of its dots are lit
abbrev frame_of : Sheet → List ℕ
frame_of s = dots_frame (glass_for s.registers) (lit s (replicate font_size 0) false)

abbrev lit_in : Sheet → ℕ
lit_in s = count_of (glass_for s.registers) (lit s (replicate font_size 0) false)

-- 31h, then 0Eh: the cursor's five dots stand at the right end of row 7, columns 75 to 79
abbrev underlined : ℕ → Sheet
underlined chip = obeyed 0x0E (obeyed 0x31 (fresh_sheet chip))

underlined_one_line : frame_of (underlined one_line) ≡ replicate 79 0 ++ 0x1F ∷ []
unfolding dots_frame lit table pack
underlined_one_line = refl

underlined_count : lit_in (underlined one_line) ≡ 5
unfolding count_of lit sum table
underlined_count = refl

-- on two lines in row 15: the first line has taken the place of the second
underlined_two_lines : frame_of (underlined two_lines) ≡ replicate 159 0 ++ 0x1F ∷ []
unfolding dots_frame lit table pack
underlined_two_lines = refl

-- and with the address at 10h in row 7
underlined_second_line : frame_of (obeyed 0x90 (underlined two_lines)) ≡ replicate 79 0 ++ 0x1F ∷ replicate 80 0
unfolding dots_frame lit table pack
underlined_second_line = refl

-- 40h, data 10h, 80h, data 00h, a Function Set, 0Ch: the dot at the upper left of pattern 0, at the first position
abbrev cornered : ℕ → ℕ → Sheet
cornered function chip = obeyed 0x0C (obeyed function (written 0x00 (obeyed 0x80 (written 0x10 (obeyed 0x40 (fresh_sheet chip))))))

-- in mode B it is the dot at the upper right: the last column, which no reversal of characters alone would give
corner_one_line : frame_of (cornered 0x31 one_line) ≡ replicate 9 0 ++ 0x01 ∷ replicate 70 0
unfolding dots_frame lit table pack
corner_one_line = refl

-- on two lines in row 8, the uppermost of the lower half
corner_two_lines : frame_of (cornered 0x31 two_lines) ≡ replicate 89 0 ++ 0x01 ∷ replicate 70 0
unfolding dots_frame lit table pack
corner_two_lines = refl

-- and so with the three other bits set
corner_all_bits : frame_of (cornered 0x3F two_lines) ≡ replicate 89 0 ++ 0x01 ∷ replicate 70 0
unfolding dots_frame lit table pack
corner_all_bits = refl

-- bit 1 is not the mode
corner_bit_one : frame_of (cornered 0x32 one_line) ≡ 0x80 ∷ replicate 79 0
unfolding dots_frame lit table pack
corner_bit_one = refl

corner_bit_one_two_lines : frame_of (cornered 0x32 two_lines) ≡ 0x80 ∷ replicate 159 0
unfolding dots_frame lit table pack
corner_bit_one_two_lines = refl
