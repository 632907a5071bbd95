-- Worked examples of the picture, on one line and on two.
use Rattle.std.specs.Prelude.{ℕ, ◌≡◌, refl, true, false, List, ◌∷◌, ◌++◌, replicate}
use Rattle.laws.specs.Bit.{pack}
use Rattle.dots.specs.Table.{table, sum}
use Rattle.dots.specs.Landing.{dots_frame, count_of}
use Rattle.chip.specs.Sizes.{one_line, two_lines}
use Rattle.chip.specs.Sheet.{fresh_sheet}
use Rattle.chip.specs.Step.{obeyed, written}
use Rattle.chip.specs.declared.sheet.Sheet.{Sheet}
use Rattle.picture.specs.Pattern.{font_size, pattern_of, shape_of}
use Rattle.picture.specs.Frame.{glass}
use Rattle.picture.specs.Picture.{lit}

-- case J: code 08h shows pattern 0
case_J : (memory font : List ℕ) → shape_of memory font 0x08 ≡ pattern_of memory 0
case_J memory font = refl

-- a fresh panel after 0Eh: D = C = 1, the cursor at position 0
abbrev underlined : ℕ → Sheet
underlined chip = obeyed 0x0E (fresh_sheet chip)

-- case L: with 20h blank in the font, 5 dots are lit, frame byte 70 is F8h, all others 0
case_L_count : count_of (glass one_line) (lit (underlined one_line) (replicate font_size 0) false) ≡ 5
unfolding count_of lit sum table
case_L_count = refl

case_L_frame : dots_frame (glass one_line) (lit (underlined one_line) (replicate font_size 0) false) ≡ replicate 70 0 ++ 0xF8 ∷ replicate 9 0
unfolding dots_frame lit table pack
case_L_frame = refl

-- 0Eh, then 53h, which is pattern address 13h: with 20h blank in the font the cursor is all that is lit. On two lines it stands on
-- the second at position 3: columns 15 to 19 of row 15, bytes 151 and 152
abbrev in_pattern : ℕ → Sheet
in_pattern chip = obeyed 0x53 (underlined chip)

second_line_count : count_of (glass two_lines) (lit (in_pattern two_lines) (replicate font_size 0) false) ≡ 5
unfolding count_of lit sum table
second_line_count = refl

second_line_frame : dots_frame (glass two_lines) (lit (in_pattern two_lines) (replicate font_size 0) false) ≡ replicate 151 0 ++ 0x01 ∷ 0xF0 ∷ replicate 7 0
unfolding dots_frame lit table pack
second_line_frame = refl

-- on one line 13h counts as 3: the same columns of row 7, bytes 71 and 72
first_line_count : count_of (glass one_line) (lit (in_pattern one_line) (replicate font_size 0) false) ≡ 5
unfolding count_of lit sum table
first_line_count = refl

first_line_frame : dots_frame (glass one_line) (lit (in_pattern one_line) (replicate font_size 0) false) ≡ replicate 71 0 ++ 0x01 ∷ 0xF0 ∷ replicate 7 0
unfolding dots_frame lit table pack
first_line_frame = refl

-- 0Ch; 40h, and 11h and 04h written there, which are the first two rows of pattern 0; 90h, and code 00h written there, which is the
-- second line's first place; 18h, the display one to the left. Its rows stand at position 15 of the second line: columns 75 and 79 of
-- row 8, column 77 of row 9, bytes 89 and 99; on the first line nothing
abbrev shifted_out : Sheet
shifted_out = obeyed 0x18 (written 0x00 (obeyed 0x90 (written 0x04 (written 0x11 (obeyed 0x40 (obeyed 0x0C (fresh_sheet two_lines)))))))

shifted_count : count_of (glass two_lines) (lit shifted_out (replicate font_size 0) false) ≡ 3
unfolding count_of lit sum table
shifted_count = refl

shifted_frame : dots_frame (glass two_lines) (lit shifted_out (replicate font_size 0) false) ≡ replicate 89 0 ++ 0x11 ∷ replicate 9 0 ++ 0x04 ∷ replicate 60 0
unfolding dots_frame lit table pack
shifted_frame = refl

-- 0Dh, then 90h: the blink, while dark, lights the eight rows of the second line's first position and of no other: bytes 80, 90, .., 150
abbrev blinking : Sheet
blinking = obeyed 0x90 (obeyed 0x0D (fresh_sheet two_lines))

blink_count : count_of (glass two_lines) (lit blinking (replicate font_size 0) true) ≡ 40
unfolding count_of lit sum table
blink_count = refl

abbrev leftmost : List ℕ
leftmost = 0xF8 ∷ replicate 9 0

blink_frame : dots_frame (glass two_lines) (lit blinking (replicate font_size 0) true)
    ≡ replicate 80 0 ++ leftmost ++ leftmost ++ leftmost ++ leftmost ++ leftmost ++ leftmost ++ leftmost ++ leftmost
unfolding dots_frame lit table pack
blink_frame = refl
