-- THE TABLE OF CASES (document 01, "Cases"; of two lines and of the read after a write, document 02, wishes 1 and 2): times 10,000 / 1,640 / 40, fresh panel; where no time is given,
-- records come 40 apart from 0.
use Rattle.std.specs.Prelude.{ℕ, ◌≡◌, refl, Bool, true, false, List, [], ◌∷◌, ◌++◌, map, replicate, eqb}
use Rattle.laws.specs.Pick.{pick}
use Rattle.chip.specs.Address.{display, pattern}
use Rattle.chip.specs.Sizes.{lines_of}
use Rattle.chip.specs.Sheet.{fresh_sheet}
use Rattle.chip.specs.declared.address.Address.{Address}
use Rattle.chip.specs.declared.address.Address.TheVariants.{Display, Pattern}
use Rattle.mirror.specs.Answer.{number_of}
use Rattle.mirror.specs.Stream.{run_of}
use Rattle.mirror.specs.declared.half.Half.{Half}
use Rattle.mirror.specs.declared.half.Half.TheVariants.{Empty}
use Rattle.dots.specs.Table as rows
use Rattle.picture.specs.Pattern.{font_size}
use Rattle.picture.specs.Picture.{shape_at}
use Rattle.striking.specs.Machine.{Answered}
use Rattle.demands.specs.Mirrors.{Response, ours}
use Rattle.demands.specs.Answers.{answers_by}
use Rattle.demands.specs.cases.Logs.{answering, instruct_at, write_at, status_at, read_at, reset_at, case_panel_of, case_panel}
use Rattle.demands.specs.cases.RowCases.{places_in}

-- what is to be seen of a log: each answer's number with its bus byte, and of the panel at the end its chip, busy end, last time, address, shift,
-- memories, half and whether the next read is good, and the eight rows that position 0 of each line shows with a blank font
pub record Seen : Type 0 where
  pub answers : List (ℕ × ℕ)
  pub chip : ℕ
  pub busy : ℕ
  pub last : ℕ
  pub address : Address
  pub shift : ℕ
  pub codes : List ℕ
  pub patterns : List ℕ
  pub half : Half
  pub good : Bool
  pub written : ℕ
  pub shapes : List (List ℕ)

abbrev told : List (Answered (List ℕ) Response) → List (ℕ × ℕ)
told [] = []
told (a ∷ rest) = (number_of a.answer.answer, a.answer.byte) ∷ told rest

abbrev pub seen_of : ℕ → List ℕ → Seen
seen_of chip log =
    let p = (run_of (case_panel_of chip) log).panel in
    record {
      answers = told (answers_by ours (case_panel_of chip) log);
      chip = p.sheet.registers.chip;
      busy = p.busy;
      last = p.last;
      address = p.sheet.registers.address;
      shift = p.sheet.registers.shift;
      codes = p.sheet.display;
      patterns = p.sheet.pattern;
      half = p.half;
      good = p.sheet.registers.good;
      written = p.sheet.registers.written;
      shapes = rows.table (λ line. shape_at p.sheet (replicate font_size 0) line 0) (lines_of chip);
    }

-- a chip, a log, and what is to be seen of it
pub record Case : Type 0 where
  pub chip : ℕ
  pub log : List ℕ
  pub seen : Seen

-- writes on both lines and a reset
abbrev both_written : List ℕ
both_written = write_at 0 0x57 ++ instruct_at 40 0x90 ++ write_at 80 0x58 ++ reset_at 120

-- n places of display memory, and of pattern memory, that nothing was written to
abbrev blank : ℕ → List ℕ
blank n = replicate n 0x20

abbrev clear : ℕ → List ℕ
clear n = replicate n 0

abbrev shows : ℕ → Bool → List ℕ → List (ℕ × ℕ) → ℕ → ℕ → Address → ℕ → List ℕ → List ℕ → List (List ℕ) → Case
shows chip good log answers busy last address shift codes patterns shapes =
    record {
      chip = chip;
      log = log;
      seen =
          record {
            answers = answers;
            chip = chip;
            busy = busy;
            last = last;
            address = address;
            shift = shift;
            codes = codes;
            patterns = patterns;
            half = Empty;
            good = good;
            written = places_in codes;
            shapes = shapes;
          };
    }

-- the same where position 0 of each line shows a code of the blank font; the next read is good or not
abbrev plain : ℕ → Bool → List ℕ → List (ℕ × ℕ) → ℕ → ℕ → Address → ℕ → List ℕ → List ℕ → Case
plain chip good log answers busy last address shift codes patterns =
    shows chip good log answers busy last address shift codes patterns (pick (eqb chip 35) (clear 8 ∷ clear 8 ∷ []) (clear 8 ∷ []))

-- not good, on one line and on two
abbrev sees : List ℕ → List (ℕ × ℕ) → ℕ → ℕ → Address → ℕ → List ℕ → List ℕ → Case
sees = plain 31 false

abbrev both : List ℕ → List (ℕ × ℕ) → ℕ → ℕ → Address → ℕ → List ℕ → List ℕ → Case
both = plain 35 false

-- a log; number and byte of each answer; busy end, last time; address; shift; display memory; pattern memory. In no row a half waits at the end, and but
-- for those marked `true` the next read is not good then: an address set was the last that was carried out
abbrev pub table : List Case
table =
    -- A: Clear at 100; 57h as data at 200 and at 1,739: ignored; at 1,740: taken, address 1
    sees (instruct_at 100 0x01 ++ write_at 200 0x57 ++ write_at 1_739 0x57 ++ write_at 1_740 0x57)
    ((0, 0) ∷ (3, 0) ∷ (3, 0) ∷ (0, 0) ∷ []) 1_780 1_740 (Display (display 1)) 0 (0x57 ∷ blank 31) (clear 32)
    -- B: Clear at 100, status at 200: byte 80h
    ∷ sees (instruct_at 100 0x01 ++ status_at 200) ((0, 0) ∷ (2, 0x80) ∷ []) 1_740 200 (Display (display 0)) 0 (blank 32) (clear 32)
    -- C: 20h at 0; halves 80h at 40 (held), 50h at 41: taken, address 5
    ∷ plain 31 true (instruct_at 0 0x20 ++ instruct_at 40 0x80 ++ instruct_at 41 0x50) ((0, 0) ∷ (1, 0) ∷ (0, 0) ∷ []) 81 41 (Display (display 5)) 0 (blank 32) (clear 32)
    -- D: as C, but first half at 39 and second at 41: both ignored
    ∷ sees (instruct_at 0 0x20 ++ instruct_at 39 0x80 ++ instruct_at 41 0x50) ((0, 0) ∷ (3, 0) ∷ (3, 0) ∷ []) 40 41 (Display (display 0)) 0 (blank 32) (clear 32)
    -- E: 20h at 0; RS 0 half at 40, RS 1 half at 41: torn, no half waits
    ∷ sees (instruct_at 0 0x20 ++ instruct_at 40 0x80 ++ write_at 41 0x50) ((0, 0) ∷ (1, 0) ∷ (4, 0) ∷ []) 40 41 (Display (display 0)) 0 (blank 32) (clear 32)
    -- F: 8Fh, then a write: address 0
    ∷ sees (instruct_at 0 0x8f ++ write_at 40 0x57) ((0, 0) ∷ (0, 0) ∷ []) 80 40 (Display (display 0)) 0 (blank 15 ++ (0x57 ∷ blank 16)) (clear 32)
    -- G: 04h, then a write: address 15
    ∷ sees (instruct_at 0 0x04 ++ write_at 40 0x57) ((0, 0) ∷ (0, 0) ∷ []) 80 40 (Display (display 15)) 0 (0x57 ∷ blank 31) (clear 32)
    -- H: 5Fh, then FFh written: entry 31 holds 1Fh, pattern address 0
    ∷ sees (instruct_at 0 0x5f ++ write_at 40 0xff) ((0, 0) ∷ (0, 0) ∷ []) 80 40 (Pattern (pattern 0)) 0 (blank 32) (clear 31 ++ (0x1f ∷ []))
    -- I: 07h, then a write: address 1, shift 1
    ∷ sees (instruct_at 0 0x07 ++ write_at 40 0x57) ((0, 0) ∷ (0, 0) ∷ []) 80 40 (Display (display 1)) 1 (0x57 ∷ blank 31) (clear 32)
    -- J: code 08h shows pattern 0, here of the rows 15h and 0Ah
    ∷ shows 31 false (instruct_at 0 0x40 ++ write_at 40 0x15 ++ write_at 80 0x0a ++ instruct_at 120 0x80 ++ write_at 160 0x08)
    ((0, 0) ∷ (0, 0) ∷ (0, 0) ∷ (0, 0) ∷ (0, 0) ∷ []) 200 160 (Display (display 1)) 0 (0x08 ∷ blank 31) (0x15 ∷ 0x0a ∷ clear 30) ((0x15 ∷ 0x0a ∷ clear 6) ∷ [])
    -- K: 00h: none; a write at the same time is taken
    ∷ sees (instruct_at 0 0x00 ++ write_at 0 0x57) ((7, 0) ∷ (0, 0) ∷ []) 40 0 (Display (display 1)) 0 (0x57 ∷ blank 31) (clear 32)
    -- Two lines. 8Fh, then a write: address 10h
    ∷ both (instruct_at 0 0x8f ++ write_at 40 0x57) ((0, 0) ∷ (0, 0) ∷ []) 80 40 (Display (display 0x10)) 0 (blank 15 ++ (0x57 ∷ blank 16)) (clear 32)
    -- 9Fh, then a write: address 00h
    ∷ both (instruct_at 0 0x9f ++ write_at 40 0x57) ((0, 0) ∷ (0, 0) ∷ []) 80 40 (Display (display 0)) 0 (blank 31 ++ (0x57 ∷ [])) (clear 32)
    -- 04h, then a write at 00h: address 1Fh
    ∷ both (instruct_at 0 0x04 ++ write_at 40 0x57) ((0, 0) ∷ (0, 0) ∷ []) 80 40 (Display (display 0x1f)) 0 (0x57 ∷ blank 31) (clear 32)
    -- 90h, 07h, a write: address 11h, shift 1
    ∷ both (instruct_at 0 0x90 ++ instruct_at 40 0x07 ++ write_at 80 0x57) ((0, 0) ∷ (0, 0) ∷ (0, 0) ∷ []) 120 80 (Display (display 0x11)) 1 (blank 16 ++ (0x57 ∷ blank 15)) (clear 32)
    -- A5h: address 05h
    ∷ plain 35 true (instruct_at 0 0xa5) ((0, 0) ∷ []) 40 0 (Display (display 5)) 0 (blank 32) (clear 32)
    -- C0h, after 95h: address 00h
    ∷ plain 35 true (instruct_at 0 0x95 ++ instruct_at 40 0xc0) ((0, 0) ∷ (0, 0) ∷ []) 80 40 (Display (display 0)) 0 (blank 32) (clear 32)
    -- 03h after moves, here to the second line and of the shift: a plain Home, with the long time
    ∷ both (instruct_at 0 0x90 ++ instruct_at 40 0x18 ++ instruct_at 80 0x03) ((0, 0) ∷ (0, 0) ∷ (0, 0) ∷ []) 1_720 80 (Display (display 0)) 0 (blank 32) (clear 32)
    -- 3Eh: no address, shift or dot changed. Before it the second line shows the pattern of row 15h at position 0, by a shift of 1
    ∷ shows 35 false (instruct_at 0 0x40 ++ write_at 40 0x15 ++ instruct_at 80 0x91 ++ write_at 120 0x08 ++ instruct_at 160 0x18 ++ instruct_at 200 0x3e)
    ((0, 0) ∷ (0, 0) ∷ (0, 0) ∷ (0, 0) ∷ (0, 0) ∷ (0, 0) ∷ []) 240 200 (Display (display 0x12)) 1 (blank 17 ++ (0x08 ∷ blank 14)) (0x15 ∷ clear 31)
    (clear 8 ∷ (0x15 ∷ clear 7) ∷ [])
    -- writes on both lines and a reset at 120: fresh, but last time 120, busy end 10,120 and chip 35
    ∷ both both_written ((0, 0) ∷ (0, 0) ∷ (0, 0) ∷ (0, 0) ∷ []) 10_120 120 (Display (display 0)) 0 (blank 32) (clear 32)
    ∷ []

-- THE READ AFTER A WRITE, on either chip: after each of these logs a read was the last that was carried out, so that the next is good
abbrev reads : ℕ → List Case
reads chip =
    -- a fresh panel, a read: doubtful, byte 0, address 1
    plain chip true (read_at 0) ((11, 0) ∷ []) 40 0 (Display (display 1)) 0 (blank 32) (clear 32)
    -- a second read: taken, byte 20h
    ∷ plain chip true (read_at 0 ++ read_at 40) ((11, 0) ∷ (0, 0x20) ∷ []) 80 40 (Display (display 2)) 0 (blank 32) (clear 32)
    -- 80h, a read: taken
    ∷ plain chip true (instruct_at 0 0x80 ++ read_at 40) ((0, 0) ∷ (0, 0x20) ∷ []) 80 40 (Display (display 1)) 0 (blank 32) (clear 32)
    -- a write, a read: doubtful
    ∷ plain chip true (write_at 0 0x57 ++ read_at 40) ((0, 0) ∷ (11, 0) ∷ []) 80 40 (Display (display 2)) 0 (0x57 ∷ blank 31) (clear 32)
    -- 40h, 14h, a read: doubtful
    ∷ plain chip true (instruct_at 0 0x40 ++ instruct_at 40 0x14 ++ read_at 80) ((0, 0) ∷ (0, 0) ∷ (11, 0) ∷ []) 120 80 (Pattern (pattern 2)) 0 (blank 32) (clear 32)
    -- a write, 14h, a read: taken
    ∷ plain chip true (write_at 0 0x57 ++ instruct_at 40 0x14 ++ read_at 80) ((0, 0) ∷ (0, 0) ∷ (0, 0x20) ∷ []) 120 80 (Display (display 3)) 0 (0x57 ∷ blank 31) (clear 32)
    -- 80h, 1Ch, a read: taken
    ∷ plain chip true (instruct_at 0 0x80 ++ instruct_at 40 0x1c ++ read_at 80) ((0, 0) ∷ (0, 0) ∷ (0, 0x20) ∷ []) 120 80 (Display (display 1)) 15 (blank 32) (clear 32)
    -- a write, 1Ch, a read: doubtful
    ∷ plain chip true (write_at 0 0x57 ++ instruct_at 40 0x1c ++ read_at 80) ((0, 0) ∷ (0, 0) ∷ (11, 0) ∷ []) 120 80 (Display (display 2)) 15 (0x57 ∷ blank 31) (clear 32)
    -- 80h, a status read, a read: taken
    ∷ plain chip true (instruct_at 0 0x80 ++ status_at 40 ++ read_at 80) ((0, 0) ∷ (2, 0) ∷ (0, 0x20) ∷ []) 120 80 (Display (display 1)) 0 (blank 32) (clear 32)
    -- a write, a status read, a read: doubtful
    ∷ plain chip true (write_at 0 0x57 ++ status_at 40 ++ read_at 80) ((0, 0) ∷ (2, 1) ∷ (11, 0) ∷ []) 120 80 (Display (display 2)) 0 (0x57 ∷ blank 31) (clear 32)
    -- 40h, a read: taken, byte 0
    ∷ plain chip true (instruct_at 0 0x40 ++ read_at 40) ((0, 0) ∷ (0, 0) ∷ []) 80 40 (Pattern (pattern 1)) 0 (blank 32) (clear 32)
    -- 80h, 0Ch, a read: doubtful
    ∷ plain chip true (instruct_at 0 0x80 ++ instruct_at 40 0x0c ++ read_at 80) ((0, 0) ∷ (0, 0) ∷ (11, 0) ∷ []) 120 80 (Display (display 1)) 0 (blank 32) (clear 32)
    -- 80h at 0, 02h at 40, a read at 1,680: doubtful
    ∷ plain chip true (instruct_at 0 0x80 ++ instruct_at 40 0x02 ++ read_at 1_680) ((0, 0) ∷ (0, 0) ∷ (11, 0) ∷ []) 1_720 1_680 (Display (display 1)) 0 (blank 32) (clear 32)
    -- 80h at 0, a reset at 40, a read at 10,040: doubtful, address 1
    ∷ plain chip true (instruct_at 0 0x80 ++ reset_at 40 ++ read_at 10_040) ((0, 0) ∷ (0, 0) ∷ (11, 0) ∷ []) 10_080 10_040 (Display (display 1)) 0 (blank 32) (clear 32)
    -- 80h at 0, a write at 39, ignored, a read at 40: taken, byte 20h
    ∷ plain chip true (instruct_at 0 0x80 ++ write_at 39 0x57 ++ read_at 40) ((0, 0) ∷ (3, 0) ∷ (0, 0x20) ∷ []) 80 40 (Display (display 1)) 0 (blank 32) (clear 32)
    -- 80h, 00h at 40, a read at 40: taken
    ∷ plain chip true (instruct_at 0 0x80 ++ instruct_at 40 0x00 ++ read_at 40) ((0, 0) ∷ (7, 0) ∷ (0, 0x20) ∷ []) 80 40 (Display (display 1)) 0 (blank 32) (clear 32)
    -- 20h at 0, then a read as two halves: held 00, doubtful 00
    ∷ plain chip true (instruct_at 0 0x20 ++ read_at 40 ++ read_at 41) ((0, 0) ∷ (1, 0) ∷ (11, 0) ∷ []) 81 41 (Display (display 1)) 0 (blank 32) (clear 32)
    ∷ []

-- each log of a table shows what its row says
abbrev pub Hold : List Case → Type 0
Hold rows = map (λ (c : Case). seen_of c.chip c.log) rows ≡ map (λ (c : Case). c.seen) rows

pub cases : Hold (table ++ reads 31 ++ reads 35)
unfolding answering rows.table
cases = refl

-- Beside the table: a record's bytes as document 01 writes them
pub clear_bytes : instruct_at 100 0x01 ≡ 0x0c ∷ 0 ∷ 0x01 ∷ 0 ∷ 0x64 ∷ 0 ∷ 0 ∷ 0 ∷ 0 ∷ 0 ∷ 0 ∷ 0 ∷ 0 ∷ 0x01 ∷ []
clear_bytes = refl

-- the mirror program's example: Clear at 100, 57h as data at 200 and at 1,740, status read at 1,780
abbrev example : List ℕ
example = instruct_at 100 0x01 ++ write_at 200 0x57 ++ write_at 1_740 0x57 ++ status_at 1_780

pub example_counts : (run_of case_panel example).counts ≡ 2 ∷ 0 ∷ 0 ∷ 1 ∷ 1 ∷ 0 ∷ 0 ∷ 0 ∷ 0 ∷ []
unfolding answering
example_counts = refl

pub example_codes : (run_of case_panel example).panel.sheet.display ≡ 0x57 ∷ blank 31
unfolding answering
example_codes = refl

-- M: empty log, all counts 0, panel fresh
pub empty_log : run_of case_panel [] ≡ record { panel = case_panel; counts = replicate 9 0; records = 0; cut = false; refused = false }
unfolding answering
empty_log = refl

-- the reset of the last row leaves all else as it was in a fresh panel of the chip
pub reset_fresh : (run_of (case_panel_of 35) both_written).panel ≡
    record { sheet = fresh_sheet 35; busy = 10_120; half = Empty; times = record { reset = 10_000; long = 1_640; short = 40 }; last = 120 }
unfolding answering
reset_fresh = refl
