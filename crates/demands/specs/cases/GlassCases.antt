-- THE TABLE OF PICTURES (document 01, "The picture"; of two lines, document 02, wish 1): whole frames, the places of codes and of the cursor, comparisons. The frames were worked out from the
-- paper by a short program apart from these definitions, which goes over all dots and tells of each whether it is lit.
use Rattle.std.specs.Prelude.{ℕ, zero, suc, ◌+◌, ◌-◌, ◌*◌, ◌%◌, refl, Bool, true, false, List, [], ◌∷◌, ◌++◌, replicate, None, Ok, Err}
use Rattle.laws.specs.Bit.{pack}
use Rattle.dots.specs.First.{first, first_dot}
use Rattle.dots.specs.Landing.{dots_frame, count_of}
use Rattle.dots.specs.Table.{table, sum}
use Rattle.chip.specs.declared.address.Address.{Address}
use Rattle.picture.specs.Compare.{Compared, compared_of, differs_at}
use Rattle.picture.specs.Cursor.{line_of, position_of}
use Rattle.picture.specs.Paint.{Painted, frame_after, painted_of}
use Rattle.picture.specs.Picture.{code_at, lit}
use Rattle.mirror.specs.declared.answer.Refusal.TheVariants.{Size, Unsound}
use Rattle.mirror.specs.declared.half.Half.TheVariants.{Empty}
use Rattle.mirror.specs.declared.panel.Panel.{Panel}
use Rattle.demands.specs.cases.RowCases.{Hold, recording, shows, draws, regs, regs_of, codes, dots, with, panel_with, panel_on}

-- what computes when a frame is painted or compared
unfoldable pub picturing : ℕ
unfolding recording dots_frame count_of lit sum table pack first first_dot
picturing = 0

-- n bytes of a font from place i on: byte i is 31 i mod 241, so that no two glyphs are alike, none is like itself turned or mirrored, and upper bits are set
abbrev glyphs : ℕ → ℕ → List ℕ
glyphs zero i = []
glyphs (suc n) i = 31 * i % 241 ∷ glyphs n (i + 1)

abbrev pub font : List ℕ
font = glyphs 1_920 0

-- display memory with the codes at the edges: 10h and FFh of the font, 0Fh and others of each pattern
abbrev pub edges : List ℕ
edges =
    (0x10 ∷ 0xff ∷ 0x0f ∷ 0x0a ∷ 0x05 ∷ 0x00 ∷ 0x41 ∷ 0x11 ∷ 0xfe ∷ 0x80 ∷ 0x7f ∷ 0x20 ∷ 0x0d ∷ 0x02 ∷ 0x1f ∷ 0x0e ∷ []) ++ replicate 16 0x20

-- Function Set bits, address, shift, D, C, B
abbrev pub glass_with : ℕ → Address → ℕ → ℕ → ℕ → ℕ → Panel
glass_with function address shift d c b = panel_with (regs address shift 0 1 d c b 8 function) edges dots 900 Empty 800

-- the Function Set bits are all set but for bit 0, which is the mode, and show nothing
abbrev glass : Address → ℕ → ℕ → ℕ → ℕ → Panel
glass = glass_with 14

-- a painting: panel, font, whether the blink is dark, frame lent; what is answered, and the frame afterwards
abbrev pub Painting : Type 0
Painting = Panel × List ℕ × Bool × List ℕ

abbrev pub painted : Painting → Painted × List ℕ
painted p = (painted_of p.0 p.1 p.2 p.3, frame_after p.0 p.1 p.2 p.3)

-- a frame that was painted before
abbrev pub old : List ℕ
old = replicate 80 0xa5

-- address 9, shift 6: the cursor at position 3, in row 7
abbrev pub underline : List ℕ
underline =
    0x31 ∷ 0xf9 ∷ 0xdb ∷ 0x43 ∷ 0xf7 ∷ 0x4d ∷ 0xc0 ∷ 0x37 ∷ 0xdf ∷ 0xe7
    ∷ 0x29 ∷ 0x95 ∷ 0xca ∷ 0xbd ∷ 0x42 ∷ 0x40 ∷ 0xbf ∷ 0x1d ∷ 0x09 ∷ 0x52
    ∷ 0x21 ∷ 0x53 ∷ 0xba ∷ 0x3a ∷ 0xad ∷ 0x3b ∷ 0x7d ∷ 0x02 ∷ 0xb6 ∷ 0xbd
    ∷ 0x19 ∷ 0x11 ∷ 0xa9 ∷ 0xb4 ∷ 0x18 ∷ 0x36 ∷ 0x3a ∷ 0xf8 ∷ 0x60 ∷ 0x08
    ∷ 0x10 ∷ 0xcf ∷ 0x99 ∷ 0x31 ∷ 0x63 ∷ 0x28 ∷ 0xf8 ∷ 0xed ∷ 0x8d ∷ 0x73
    ∷ 0x80 ∷ 0x8d ∷ 0x88 ∷ 0xea ∷ 0xce ∷ 0x9b ∷ 0xb6 ∷ 0xd3 ∷ 0x3a ∷ 0xde
    ∷ 0x78 ∷ 0x4a ∷ 0x68 ∷ 0x64 ∷ 0x39 ∷ 0x96 ∷ 0x74 ∷ 0xc8 ∷ 0xe4 ∷ 0x29
    ∷ 0x70 ∷ 0x09 ∷ 0xff ∷ 0x61 ∷ 0x84 ∷ 0x89 ∷ 0x32 ∷ 0xbe ∷ 0x11 ∷ 0x94 ∷ []

-- pattern address 22, shift 11: the blink at position 11, in every row
abbrev pub block : List ℕ
block =
    0x87 ∷ 0xee ∷ 0x9b ∷ 0x80 ∷ 0x6f ∷ 0xbf ∷ 0xcf ∷ 0xf3 ∷ 0xf3 ∷ 0xb6
    ∷ 0x7a ∷ 0x84 ∷ 0x81 ∷ 0x7e ∷ 0x3a ∷ 0x12 ∷ 0xa5 ∷ 0xf3 ∷ 0x2b ∷ 0x95
    ∷ 0x75 ∷ 0x5a ∷ 0x76 ∷ 0xfa ∷ 0x05 ∷ 0x6d ∷ 0x7b ∷ 0xf2 ∷ 0xa7 ∷ 0x74
    ∷ 0x68 ∷ 0x30 ∷ 0x6c ∷ 0x75 ∷ 0xf0 ∷ 0xc0 ∷ 0x11 ∷ 0xf2 ∷ 0x23 ∷ 0x53
    ∷ 0x62 ∷ 0xc6 ∷ 0x51 ∷ 0xf1 ∷ 0xdb ∷ 0x1a ∷ 0xe7 ∷ 0xf1 ∷ 0x9f ∷ 0x32
    ∷ 0xd5 ∷ 0x9d ∷ 0x37 ∷ 0x6d ∷ 0xa6 ∷ 0x75 ∷ 0xbd ∷ 0xf1 ∷ 0x1b ∷ 0x11
    ∷ 0xc8 ∷ 0x73 ∷ 0x2c ∷ 0xe9 ∷ 0x91 ∷ 0xc8 ∷ 0x53 ∷ 0xf0 ∷ 0x94 ∷ 0xd0
    ∷ 0xc3 ∷ 0x09 ∷ 0x12 ∷ 0x65 ∷ 0x7c ∷ 0x23 ∷ 0x29 ∷ 0xf0 ∷ 0x10 ∷ 0xbe ∷ []

-- the same while the blink is not dark, with the cursor
abbrev pub bright : List ℕ
bright =
    0x87 ∷ 0xee ∷ 0x9b ∷ 0x80 ∷ 0x6f ∷ 0xbf ∷ 0xce ∷ 0x63 ∷ 0xf3 ∷ 0xb6
    ∷ 0x7a ∷ 0x84 ∷ 0x81 ∷ 0x7e ∷ 0x3a ∷ 0x12 ∷ 0xa4 ∷ 0x53 ∷ 0x2b ∷ 0x95
    ∷ 0x75 ∷ 0x5a ∷ 0x76 ∷ 0xfa ∷ 0x05 ∷ 0x6d ∷ 0x7a ∷ 0x42 ∷ 0xa7 ∷ 0x74
    ∷ 0x68 ∷ 0x30 ∷ 0x6c ∷ 0x75 ∷ 0xf0 ∷ 0xc0 ∷ 0x10 ∷ 0x32 ∷ 0x23 ∷ 0x53
    ∷ 0x62 ∷ 0xc6 ∷ 0x51 ∷ 0xf1 ∷ 0xdb ∷ 0x1a ∷ 0xe6 ∷ 0x21 ∷ 0x9f ∷ 0x32
    ∷ 0xd5 ∷ 0x9d ∷ 0x37 ∷ 0x6d ∷ 0xa6 ∷ 0x75 ∷ 0xbd ∷ 0x01 ∷ 0x1b ∷ 0x11
    ∷ 0xc8 ∷ 0x73 ∷ 0x2c ∷ 0xe9 ∷ 0x91 ∷ 0xc8 ∷ 0x52 ∷ 0xf0 ∷ 0x94 ∷ 0xd0
    ∷ 0xc3 ∷ 0x09 ∷ 0x12 ∷ 0x65 ∷ 0x7c ∷ 0x23 ∷ 0x29 ∷ 0xf0 ∷ 0x10 ∷ 0xbe ∷ []

abbrev pictures : List (Painting × (Painted × List ℕ))
pictures =
    ((glass (shows 9) 6 1 1 0, font, true, old), (Ok 311, underline))
    ∷ ((glass (draws 22) 11 1 0 1, font, true, old), (Ok 332, block))
    ∷ ((glass (draws 22) 11 1 1 1, font, false, old), (Ok 310, bright))
    -- D = 0: no dot is lit
    ∷ ((glass (shows 9) 6 0 1 1, font, true, old), (Ok 0, replicate 80 0))
    ∷ []

pub pictures_computed : Hold painted pictures
unfolding picturing
pictures_computed = refl

-- TWO LINES with a font that is blank: Function Set bits, address, shift, D, C, B; both lines blank but for the codes given
abbrev pub pane_with : ℕ → Address → ℕ → ℕ → ℕ → ℕ → List ℕ → Panel
pane_with function address shift d c b display = panel_with (regs_of 35 (regs address shift 0 1 d c b 8 function)) display dots 900 Empty 800

-- in mode A, as above
abbrev pane : Address → ℕ → ℕ → ℕ → ℕ → List ℕ → Panel
pane = pane_with 14

abbrev pub blank_font : List ℕ
blank_font = replicate 1_920 0

-- n bytes of 0
abbrev pub none : ℕ → List ℕ
none n = replicate n 0

-- the same cell in every one of n rows of ten bytes: two bytes from the place on
abbrev pub column : ℕ → ℕ → ℕ → ℕ → List ℕ
column zero at a b = []
column (suc n) at a b = none at ++ (a ∷ b ∷ none (8 - at)) ++ column n at a b

-- 80 bytes are a line; columns 15 to 19 are the lowest bit of byte 1 and the upper four of byte 2 of a row
abbrev pictures_on_two : List (Painting × (Painted × List ℕ))
pictures_on_two =
    -- pattern address 13h: the cursor on line 1 at position 3, in row 15; as address 13h of display memory; and address 03h on line 0, in row 7
    ((pane (draws 0x13) 0 1 1 0 (replicate 32 0x20), blank_font, true, replicate 160 0xa5), (Ok 5, none 151 ++ (0x01 ∷ 0xf0 ∷ none 7)))
    ∷ ((pane (shows 0x13) 0 1 1 0 (replicate 32 0x20), blank_font, true, replicate 160 0xa5), (Ok 5, none 151 ++ (0x01 ∷ 0xf0 ∷ none 7)))
    ∷ ((pane (shows 0x03) 0 1 1 0 (replicate 32 0x20), blank_font, true, replicate 160 0xa5), (Ok 5, none 71 ++ (0x01 ∷ 0xf0 ∷ none 87)))
    -- the blink at address 15h, shift 2: line 1, position 3, in its eight rows alone
    ∷ ((pane (shows 0x15) 2 1 0 1 (replicate 32 0x20), blank_font, true, replicate 160 0xa5), (Ok 40, none 80 ++ column 8 1 0x01 0xf0))
    -- pattern 1 at place 10h, whose rows are 31, 10, 21, 0, 11, 22, 1 and 12: with a shift of 1 on line 1 at position 15, columns 75 to 79
    ∷ (
      (pane (shows 0) 1 1 0 0 (with 16 0x01 (replicate 32 0x20)), blank_font, true, replicate 160 0xa5),
      (Ok 19, none 89 ++ (0x1f ∷ none 9) ++ (0x0a ∷ none 9) ++ (0x15 ∷ none 9) ++ (0x00 ∷ none 9) ++ (0x0b ∷ none 9) ++ (0x16 ∷ none 9) ++ (0x01 ∷ none 9) ++ (0x0c ∷ [])),
    )
    -- and at place 00h with the same shift on line 0 at position 15
    ∷ (
      (pane (shows 0) 1 1 0 0 (with 0 0x01 (replicate 32 0x20)), blank_font, true, replicate 160 0xa5),
      (Ok 19, none 9 ++ (0x1f ∷ none 9) ++ (0x0a ∷ none 9) ++ (0x15 ∷ none 9) ++ (0x00 ∷ none 9) ++ (0x0b ∷ none 9) ++ (0x16 ∷ none 9) ++ (0x01 ∷ none 9) ++ (0x0c ∷ none 80)),
    )
    -- a frame of the other chip's size
    ∷ ((pane (shows 0) 1 1 0 0 (replicate 32 0x20), blank_font, true, replicate 80 0xa5), (Err Size, replicate 80 0xa5))
    ∷ ((glass (shows 9) 6 1 1 0, font, true, replicate 160 0xa5), (Err Size, replicate 160 0xa5))
    -- a chip that is not known: not sound, before any size
    ∷ ((panel_with (regs_of 6 (regs (shows 9) 6 0 1 1 1 0 8 15)) edges dots 900 Empty 800, font, true, replicate 160 0xa5), (Err Unsound, replicate 160 0xa5))
    ∷ []

pub pictures_on_two_computed : Hold painted pictures_on_two
unfolding picturing
pictures_on_two_computed = refl

-- Refused: a frame not of 80 bytes, a font not of 1,920, a panel that is not sound, which comes first. The frame lent stays
abbrev refused : Panel → List ℕ → List ℕ → Painted → Painting × (Painted × List ℕ)
refused given glyphs frame answer = ((given, glyphs, true, frame), (answer, frame))

abbrev refusals : List (Painting × (Painted × List ℕ))
refusals =
    refused (glass (shows 9) 6 1 1 0) font (replicate 79 0xa5) (Err Size)
    ∷ refused (glass (shows 9) 6 1 1 0) font (replicate 81 0xa5) (Err Size)
    ∷ refused (glass (shows 9) 6 1 1 0) font [] (Err Size)
    ∷ refused (glass (shows 9) 6 1 1 0) (glyphs 1_919 0) old (Err Size)
    ∷ refused (glass (shows 9) 6 1 1 0) (glyphs 1_921 0) old (Err Size)
    ∷ refused (glass (shows 9) 6 0 1 0) [] old (Err Size)
    ∷ refused (glass (shows 9) 16 1 1 0) font old (Err Unsound)
    ∷ refused (glass (shows 9) 16 1 1 0) font (replicate 79 0xa5) (Err Unsound)
    ∷ refused (glass (shows 9) 16 1 1 0) [] old (Err Unsound)
    ∷ []

pub refusals_computed : Hold painted refusals
unfolding picturing
refusals_computed = refl

-- screen position p shows display address (p + shift) mod 16: shift, position; code
abbrev shown : ℕ × ℕ → ℕ
shown p = code_at (panel_with (regs (shows 9) p.0 0 1 1 1 1 8 5) codes dots 900 Empty 800).sheet 0 p.1

pub shown_computed : Hold shown (((0, 0), 0xf0) ∷ ((0, 15), 0x0f) ∷ ((6, 0), 0x96) ∷ ((6, 9), 0x0f) ∷ ((6, 10), 0xf0) ∷ ((15, 0), 0x0f) ∷ ((15, 15), 0x1e) ∷ [])
unfolding picturing
shown_computed = refl

-- on two lines position p of line l shows display address 16 l + (p + shift) mod 16: shift, line, position; code
abbrev shown_on_two : ℕ × ℕ × ℕ → ℕ
shown_on_two p = code_at (panel_on 35 (regs (shows 9) p.0 0 1 1 1 1 8 5) 900 Empty 800).sheet p.1 p.2

abbrev places_on_two : List ((ℕ × ℕ × ℕ) × ℕ)
places_on_two =
    ((0, 0, 0), 0xf0)
    ∷ ((0, 0, 15), 0x0f)
    ∷ ((0, 1, 0), 0x31)
    ∷ ((0, 1, 15), 0x20)
    ∷ ((6, 0, 9), 0x0f)
    ∷ ((6, 0, 10), 0xf0)
    ∷ ((6, 1, 0), 0x97)
    ∷ ((6, 1, 9), 0x20)
    ∷ ((6, 1, 10), 0x31)
    ∷ ((15, 0, 0), 0x0f)
    ∷ ((15, 1, 0), 0x20)
    ∷ ((15, 1, 1), 0x31)
    ∷ []

pub shown_on_two_computed : Hold shown_on_two places_on_two
unfolding picturing
shown_on_two_computed = refl

-- the cursor's position is (address - shift) mod 16, a pattern address taken mod 16: address, shift; position
abbrev pointed : Address × ℕ → ℕ
pointed p = position_of 31 p.0 p.1

abbrev positions : List ((Address × ℕ) × ℕ)
positions =
    ((shows 9, 0), 9)
    ∷ ((shows 9, 6), 3)
    ∷ ((shows 2, 6), 12)
    ∷ ((shows 0, 15), 1)
    ∷ ((shows 15, 0), 15)
    ∷ ((draws 9, 6), 3)
    ∷ ((draws 22, 0), 6)
    ∷ ((draws 22, 11), 11)
    ∷ ((draws 16, 1), 15)
    ∷ ((draws 31, 0), 15)
    ∷ ((draws 31, 15), 0)
    ∷ []

pub positions_computed : Hold pointed positions
unfolding picturing
positions_computed = refl

-- the cursor's line and position: chip, address, shift. On two lines line address div 16, a pattern address taken as it is; one line has no other
abbrev stands : ℕ × Address × ℕ → ℕ × ℕ
stands p = (line_of p.0 p.1, position_of p.0 p.1 p.2)

abbrev standings : List ((ℕ × Address × ℕ) × (ℕ × ℕ))
standings =
    ((35, shows 9, 0), (0, 9))
    ∷ ((35, shows 15, 0), (0, 15))
    ∷ ((35, shows 16, 0), (1, 0))
    ∷ ((35, shows 25, 6), (1, 3))
    ∷ ((35, shows 18, 6), (1, 12))
    ∷ ((35, shows 2, 6), (0, 12))
    ∷ ((35, shows 31, 15), (1, 0))
    ∷ ((35, shows 16, 15), (1, 1))
    ∷ ((35, draws 9, 6), (0, 3))
    ∷ ((35, draws 22, 11), (1, 11))
    ∷ ((35, draws 31, 0), (1, 15))
    ∷ ((31, draws 22, 11), (0, 11))
    ∷ ((31, draws 31, 0), (0, 15))
    ∷ ((31, shows 9, 6), (0, 3))
    ∷ []

pub standings_computed : Hold stands standings
unfolding picturing
standings_computed = refl

-- the first dot, by rows, at which two frames differ: of dots (0, 79) and (1, 0) the former; dot (3, 35) is bit 4 of byte 34, and dot (3, 37) bit 2
abbrev compared : List ℕ × List ℕ → Compared
compared p = compared_of 31 p.0 p.1

abbrev dark : List ℕ
dark = replicate 80 0

abbrev comparisons : List ((List ℕ × List ℕ) × Compared)
comparisons =
    ((dark, dark), Ok None)
    ∷ ((old, old), Ok None)
    ∷ ((dark, with 9 0x01 (with 10 0x80 dark)), differs_at 0 79)
    ∷ ((with 9 0x01 (with 10 0x80 dark), dark), differs_at 0 79)
    ∷ ((with 10 0x80 dark, dark), differs_at 1 0)
    ∷ ((dark, with 34 0x14 dark), differs_at 3 35)
    ∷ ((dark, with 34 0x04 (with 40 0xff dark)), differs_at 3 37)
    ∷ ((with 5 0xa4 old, old), differs_at 0 47)
    ∷ ((dark, with 0 0x80 dark), differs_at 0 0)
    ∷ ((dark, with 79 0x01 dark), differs_at 7 79)
    -- a frame not of 80 bytes
    ∷ ((replicate 79 0, dark), Err Size)
    ∷ ((dark, replicate 79 0), Err Size)
    ∷ ((replicate 81 0, dark), Err Size)
    ∷ ((dark, replicate 81 0), Err Size)
    ∷ ((replicate 79 0, replicate 79 0), Err Size)
    ∷ (([], []), Err Size)
    ∷ []

pub comparisons_computed : Hold compared comparisons
unfolding picturing
comparisons_computed = refl

-- and of the chip with two lines, or of an unknown one: chip, two frames
abbrev told : ℕ × List ℕ × List ℕ → Compared
told p = compared_of p.0 p.1 p.2

abbrev tellings : List ((ℕ × List ℕ × List ℕ) × Compared)
tellings =
    ((35, replicate 160 0, replicate 160 0), Ok None)
    ∷ ((35, replicate 160 0, with 159 0x01 (replicate 160 0)), differs_at 15 79)
    ∷ ((35, with 80 0x80 (replicate 160 0), with 159 0x01 (replicate 160 0)), differs_at 8 0)
    ∷ ((35, dark, dark), Err Size)
    ∷ ((35, dark, replicate 160 0), Err Size)
    ∷ ((35, replicate 160 0, dark), Err Size)
    ∷ ((31, replicate 160 0, replicate 160 0), Err Size)
    ∷ ((6, dark, dark), Err Unsound)
    ∷ ((6, [], dark), Err Unsound)
    ∷ []

pub tellings_computed : Hold told tellings
unfolding picturing
tellings_computed = refl
