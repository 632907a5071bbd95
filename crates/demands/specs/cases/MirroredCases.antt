-- THE TABLE OF MIRRORED PICTURES (document 02, wish 5): in mode B, which is Function Set bit 0, on one line and on two. The frames of mode A were worked out from
-- the paper (THE TABLE OF PICTURES); what the wish makes of a frame is said here of its bytes, without a word of where a dot lands.
use Rattle.std.specs.Prelude.{ℕ, zero, suc, ◌-◌, refl, true, List, [], ◌∷◌, ◌++◌, replicate, take, drop, Ok, Err}
use Rattle.laws.specs.Bit.{bit, pack}
use Rattle.mirror.specs.declared.answer.Refusal.TheVariants.{Size, Unsound}
use Rattle.picture.specs.Paint.{Painted}
use Rattle.demands.specs.cases.RowCases.{Hold, shows, draws, with}
use Rattle.demands.specs.cases.GlassCases.{picturing, font, edges, glass_with, pane_with, Painting, painted, old, underline, block, bright, blank_font, none, column}

-- the bytes of a row back to front, the bits of each too
abbrev back_to_front : List ℕ → List ℕ → List ℕ
back_to_front [] done = done
back_to_front (byte ∷ rest) done = back_to_front rest (pack (λ i. bit byte (7 - i)) 8 ∷ done)

-- n rows of ten bytes from right to left, in the order that they have
abbrev right_to_left : ℕ → List ℕ → List ℕ
right_to_left zero frame = []
right_to_left (suc n) frame = back_to_front (take 10 frame) [] ++ right_to_left n (drop 10 frame)

-- a one-line frame runs right to left; a two-line frame also has its halves exchanged
abbrev one_line : List ℕ → List ℕ
one_line frame = right_to_left 8 frame

abbrev two_lines : List ℕ → List ℕ → List ℕ
two_lines upper lower = right_to_left 8 lower ++ right_to_left 8 upper

-- all four bits are set, or bit 0 alone
abbrev pictures : List (Painting × (Painted × List ℕ))
pictures =
    ((glass_with 15 (shows 9) 6 1 1 0, font, true, old), (Ok 311, one_line underline))
    ∷ ((glass_with 1 (draws 22) 11 1 0 1, font, true, old), (Ok 332, one_line block))
    -- D = 0: no dot is lit
    ∷ ((glass_with 15 (shows 9) 6 0 1 1, font, true, old), (Ok 0, replicate 80 0))
    -- another size, and Function Set bits out of range, whose bit 0 is set: refused as in mode A
    ∷ ((glass_with 15 (shows 9) 6 1 1 0, font, true, replicate 160 0xa5), (Err Size, replicate 160 0xa5))
    ∷ ((glass_with 17 (shows 9) 6 1 1 0, font, true, old), (Err Unsound, old))
    ∷ []

pub pictures_computed : Hold painted pictures
unfolding picturing
pictures_computed = refl

-- the same codes on both lines, at pattern address 22, shift 11, with the blink: it stands on the second line, which is as `block`. The first is as `bright` without
-- its cursor: row 7 of code 41h is font byte 399, 31 x 399 mod 241 = 78, whose low five bits are 01110, in the columns 55 to 59
abbrev doubled : List ℕ
doubled = take 16 edges ++ take 16 edges

abbrev plain : List ℕ
plain = with 76 0x28 (with 77 0xe0 bright)

-- 80 bytes are a half; columns 60 to 64, where the cell of position 3 is, are the lower four bits of byte 7 and the highest of byte 8 of a row
abbrev pictures_on_two : List (Painting × (Painted × List ℕ))
pictures_on_two =
    ((pane_with 5 (draws 22) 11 1 0 1 doubled, font, true, replicate 160 0xa5), (Ok 640, two_lines plain block))
    -- the cursor on line 1 at position 3 is in row 7, and on line 0 in row 15
    ∷ ((pane_with 15 (draws 0x13) 0 1 1 0 (replicate 32 0x20), blank_font, true, replicate 160 0xa5), (Ok 5, none 77 ++ (0x0f ∷ 0x80 ∷ none 81)))
    ∷ ((pane_with 15 (shows 0x03) 0 1 1 0 (replicate 32 0x20), blank_font, true, replicate 160 0xa5), (Ok 5, none 157 ++ (0x0f ∷ 0x80 ∷ none 1)))
    -- the blink at address 15h, shift 2: line 1, position 3, in the eight rows of the upper half alone
    ∷ ((pane_with 15 (shows 0x15) 2 1 0 1 (replicate 32 0x20), blank_font, true, replicate 160 0xa5), (Ok 40, column 8 7 0x0f 0x80 ++ none 80))
    -- pattern 1 on line 1 at position 15: its rows 31, 10, 21, 0, 11, 22, 1 and 12 from the top, each from right to left, in the columns 0 to 4
    ∷ (
      (pane_with 15 (shows 0) 1 1 0 0 (with 16 0x01 (replicate 32 0x20)), blank_font, true, replicate 160 0xa5),
      (Ok 19, (0xf8 ∷ none 9) ++ (0x50 ∷ none 9) ++ (0xa8 ∷ none 9) ++ (0x00 ∷ none 9) ++ (0xd0 ∷ none 9) ++ (0x68 ∷ none 9) ++ (0x80 ∷ none 9) ++ (0x30 ∷ none 89)),
    )
    -- a frame of the other chip's size
    ∷ ((pane_with 15 (shows 0) 1 1 0 0 (replicate 32 0x20), blank_font, true, old), (Err Size, old))
    ∷ []

pub pictures_on_two_computed : Hold painted pictures_on_two
unfolding picturing
pictures_on_two_computed = refl
