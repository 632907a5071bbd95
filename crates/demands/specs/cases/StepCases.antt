-- THE TABLE OF STEPS (document 01, "Steps"; of two lines, document 02, wish 1): each from panels that are nowhere fresh, at the time 1,000, free since 900.
-- In `regs`: address; shift; I/D, S; D, C, B; width; Function Set bits; the next read is good, and where it is not they are `doubted` (document 02,
-- wish 2; more of it in GoodCases). What the number of lines has no say in is a row of both chips.
use Rattle.std.specs.Prelude.{ℕ, ◌+◌, ◌*◌, ◌/◌, ◌%◌, refl, List, [], ◌∷◌, ◌++◌, map}
use Rattle.chip.specs.declared.address.Address.{Address}
use Rattle.chip.specs.declared.registers.Registers.{Registers}
use Rattle.mirror.specs.Panel.{fresh_panel}
use Rattle.mirror.specs.declared.half.Half.TheVariants.{Empty}
use Rattle.mirror.specs.declared.panel.Panel.{Panel}
use Rattle.demands.specs.cases.Logs.{instruct_at, write_at, status_at, transfer_at, reset_at}
use Rattle.demands.specs.cases.RowCases.{Hold, Row, row, answered, recording, shows, draws, regs, regs_of, down, up, memory_of, dots, with, panel_with, panel_on, doubted, held, missed, blank, afresh_of, afresh}

-- the busy end after 1,000 with the short time, 71, and with the long time, 2,003
abbrev short : ℕ
short = 1_071

abbrev long : ℕ
long = 3_003

-- registers at width 8 of which only address, shift, I/D and S matter to the row
abbrev place : Address → ℕ → ℕ → ℕ → Registers
place address shift i s = regs address shift i s 1 0 1 8 5

module _ (chip : ℕ) where
  -- an instruction at width 8: panel before from its registers, code; registers and busy end afterwards. The memories stay
  abbrev whole : Registers → ℕ → Registers → ℕ → Row
  whole before code after busy = row (panel_on chip before 900 Empty 800) (instruct_at 1_000 code) 0 0 14 (panel_on chip after busy Empty 1_000)

  -- the same at width 4, where the high half waits and the low half comes, with other bits below it
  abbrev paired : Registers → ℕ → Registers → ℕ → Row
  paired before code after busy =
      row (panel_on chip before 900 (held 0 0 (code / 16)) 800) (instruct_at 1_000 (code % 16 * 16 + 11)) 0 0 14 (panel_on chip after busy Empty 1_000)

  -- Clear: 20h everywhere in display memory, display address 0, shift 0, I/D = 1; S stays, and all else. From a panel with its width and half, a
  -- code; registers afterwards
  abbrev clear : Registers → ℕ → Registers → Row
  clear before code after = row (panel_on chip before 900 Empty 800) (instruct_at 1_000 code) 0 0 14 (panel_with (regs_of chip (doubted after)) blank dots long Empty 1_000)

  abbrev clears : List Row
  clears =
      clear (down 8) 0x01 (regs (shows 0) 0 1 1 1 0 1 8 5)
      ∷ clear (up 8) 0x01 (regs (shows 0) 0 1 0 0 1 0 8 10)
      ∷ row (panel_on chip (down 4) 900 (held 0 0 0) 800) (instruct_at 1_000 0x1f) 0 0 14 (panel_with (regs_of chip (doubted (regs (shows 0) 0 1 1 1 0 1 4 5))) blank dots long Empty 1_000)
      ∷ []

  -- Home: display address 0, shift 0; I/D and S stay, and the memories
  abbrev homes : List Row
  homes =
      whole (down 8) 0x02 (doubted (regs (shows 0) 0 0 1 1 0 1 8 5)) long
      ∷ whole (up 8) 0x02 (doubted (regs (shows 0) 0 1 0 0 1 0 8 10)) long
      ∷ whole (down 8) 0x03 (doubted (regs (shows 0) 0 0 1 1 0 1 8 5)) long
      ∷ whole (up 8) 0x03 (doubted (regs (shows 0) 0 1 0 0 1 0 8 10)) long
      ∷ paired (down 4) 0x02 (doubted (regs (shows 0) 0 0 1 1 0 1 4 5)) long
      ∷ paired (up 4) 0x03 (doubted (regs (shows 0) 0 1 0 0 1 0 4 10)) long
      ∷ []

  -- 04h to 07h: code, I/D, S; from both settings
  abbrev entry : ℕ → ℕ → ℕ → List Row
  entry code i s =
      paired (down 4) code (doubted (regs (shows 9) 6 i s 1 0 1 4 5)) short ∷ whole (up 8) code (doubted (regs (draws 22) 11 i s 0 1 0 8 10)) short ∷ []

  -- 08h to 0Fh: code, D, C, B
  abbrev screen : ℕ → ℕ → ℕ → ℕ → List Row
  screen code d c b =
      paired (down 4) code (doubted (regs (shows 9) 6 0 1 d c b 4 5)) short ∷ whole (up 8) code (doubted (regs (draws 22) 11 1 0 d c b 8 10)) short ∷ []

  -- 20h to 3Fh: code, width, bits kept; from width 4 and from width 8
  abbrev function : ℕ → ℕ → ℕ → List Row
  function code width bits =
      paired (down 4) code (doubted (regs (shows 9) 6 0 1 1 0 1 width bits)) short ∷ whole (up 8) code (doubted (regs (draws 22) 11 1 0 0 1 0 width bits)) short ∷ []

  -- 40h to FFh: code, address; I/D, S and shift stay
  abbrev sets : ℕ → Address → List Row
  sets code to =
      paired (down 4) code (regs to 6 0 1 1 0 1 4 5) short ∷ whole (up 8) code (regs to 11 1 0 0 1 0 8 10) short ∷ []

  abbrev settings : List Row
  settings =
      entry 0x04 0 0 ++ entry 0x05 0 1 ++ entry 0x06 1 0 ++ entry 0x07 1 1
      ++ screen 0x08 0 0 0 ++ screen 0x09 0 0 1 ++ screen 0x0a 0 1 0 ++ screen 0x0b 0 1 1
      ++ screen 0x0c 1 0 0 ++ screen 0x0d 1 0 1 ++ screen 0x0e 1 1 0 ++ screen 0x0f 1 1 1
      ++ function 0x20 4 0 ++ function 0x21 4 1 ++ function 0x22 4 2 ++ function 0x24 4 4 ++ function 0x28 4 8 ++ function 0x2f 4 15
      ++ function 0x30 8 0 ++ function 0x31 8 1 ++ function 0x32 8 2 ++ function 0x34 8 4 ++ function 0x38 8 8 ++ function 0x3e 8 14 ++ function 0x3f 8 15

  -- pattern address: low five bits, whatever bit 5 is. Display address: the low four bits count on both chips, bits 6 and 5 on neither
  abbrev addresses : List Row
  addresses =
      sets 0x40 (draws 0) ++ sets 0x4a (draws 10) ++ sets 0x55 (draws 21) ++ sets 0x5f (draws 31)
      ++ sets 0x60 (draws 0) ++ sets 0x6a (draws 10) ++ sets 0x75 (draws 21) ++ sets 0x7f (draws 31)
      ++ sets 0x80 (shows 0) ++ sets 0x81 (shows 1) ++ sets 0x82 (shows 2) ++ sets 0x84 (shows 4) ++ sets 0x88 (shows 8) ++ sets 0x8f (shows 15)
      ++ sets 0xa5 (shows 5) ++ sets 0xc0 (shows 0) ++ sets 0xca (shows 10)

  -- 10h to 1Fh, the low two bits of no effect: the address down and up whatever I/D is, the shift left (+1) and right (-1) whatever the address is
  abbrev moves : List Row
  moves =
      map (λ code. paired (down 4) code (regs (shows 8) 6 0 1 1 0 1 4 5) short) (0x10 ∷ 0x11 ∷ 0x12 ∷ 0x13 ∷ [])
      ++ map (λ code. whole (up 8) code (doubted (regs (draws 21) 11 1 0 0 1 0 8 10)) short) (0x10 ∷ 0x11 ∷ 0x12 ∷ 0x13 ∷ [])
      ++ map (λ code. paired (down 4) code (regs (shows 10) 6 0 1 1 0 1 4 5) short) (0x14 ∷ 0x15 ∷ 0x16 ∷ 0x17 ∷ [])
      ++ map (λ code. whole (up 8) code (doubted (regs (draws 23) 11 1 0 0 1 0 8 10)) short) (0x14 ∷ 0x15 ∷ 0x16 ∷ 0x17 ∷ [])
      ++ map (λ code. paired (down 4) code (regs (shows 9) 7 0 1 1 0 1 4 5) short) (0x18 ∷ 0x19 ∷ 0x1a ∷ 0x1b ∷ [])
      ++ map (λ code. whole (up 8) code (regs (draws 22) 12 1 0 0 1 0 8 10) short) (0x18 ∷ 0x19 ∷ 0x1a ∷ 0x1b ∷ [])
      ++ map (λ code. paired (down 4) code (regs (shows 9) 5 0 1 1 0 1 4 5) short) (0x1c ∷ 0x1d ∷ 0x1e ∷ 0x1f ∷ [])
      ++ map (λ code. whole (up 8) code (regs (draws 22) 10 1 0 0 1 0 8 10) short) (0x1c ∷ 0x1d ∷ 0x1e ∷ 0x1f ∷ [])

  -- the wraps of 10h to 1Fh that both chips have: 31 to 0 and 0 to 31 in pattern memory and not at 15; the shift 15 to 0 and 0 to 15
  abbrev turns : List Row
  turns =
      whole (place (draws 31) 6 0 1) 0x14 (doubted (place (draws 0) 6 0 1)) short
      ∷ whole (place (draws 0) 6 1 1) 0x10 (doubted (place (draws 31) 6 1 1)) short
      ∷ whole (place (draws 15) 6 0 1) 0x14 (doubted (place (draws 16) 6 0 1)) short
      ∷ whole (place (draws 16) 6 1 1) 0x10 (doubted (place (draws 15) 6 1 1)) short
      ∷ whole (place (shows 9) 15 0 1) 0x18 (place (shows 9) 0 0 1) short
      ∷ whole (place (shows 9) 0 1 1) 0x1c (place (shows 9) 15 1 1) short
      ∷ whole (place (draws 22) 15 0 0) 0x18 (place (draws 22) 0 0 0) short
      ∷ whole (place (draws 22) 0 1 0) 0x1c (place (draws 22) 15 1 0) short
      ∷ []

  -- display memory with another byte at one address
  abbrev changed : ℕ → ℕ → List ℕ
  changed at byte = with at byte (memory_of chip)

  -- a data write at width 8: registers before, data; registers and both memories afterwards
  abbrev writes : Registers → ℕ → Registers → List ℕ → List ℕ → Row
  writes before byte after display pattern =
      row (panel_on chip before 900 Empty 800) (write_at 1_000 byte) 0 0 14 (panel_with (regs_of chip (doubted after)) display pattern short Empty 1_000)

  -- the same at width 4, where the high half waits
  abbrev pair_writes : Registers → ℕ → Registers → List ℕ → List ℕ → Row
  pair_writes before byte after display pattern =
      row (panel_on chip before 900 (held 1 0 (byte / 16)) 800) (write_at 1_000 (byte % 16 * 16 + 11)) 0 0 14 (panel_with (regs_of chip (doubted after)) display pattern short Empty 1_000)

  -- display memory: the address moves by I/D; with S = 1 the shift moves too, left if I/D = 1, right if 0. Data of 00h and 01h is data
  abbrev display_writes : List Row
  display_writes =
      writes (place (shows 9) 6 1 0) 0x57 (place (shows 10) 6 1 0) (changed 9 0x57) dots
      ∷ writes (place (shows 9) 6 1 1) 0xff (place (shows 10) 7 1 1) (changed 9 0xff) dots
      ∷ writes (place (shows 9) 6 0 0) 0x57 (place (shows 8) 6 0 0) (changed 9 0x57) dots
      ∷ writes (place (shows 9) 6 0 1) 0xff (place (shows 8) 5 0 1) (changed 9 0xff) dots
      ∷ writes (regs (shows 3) 11 1 1 0 1 0 8 10) 0xa6 (regs (shows 4) 12 1 1 0 1 0 8 10) (changed 3 0xa6) dots
      ∷ pair_writes (down 4) 0x57 (regs (shows 8) 5 0 1 1 0 1 4 5) (changed 9 0x57) dots
      ∷ pair_writes (down 4) 0x00 (regs (shows 8) 5 0 1 1 0 1 4 5) (changed 9 0x00) dots
      ∷ pair_writes (down 4) 0x01 (regs (shows 8) 5 0 1 1 0 1 4 5) (changed 9 0x01) dots
      ∷ []

  -- pattern memory: the low five bits are stored, the address moves by I/D, and the shift stays whatever S is
  abbrev pattern_writes : List Row
  pattern_writes =
      writes (place (draws 22) 6 1 0) 0xff (place (draws 23) 6 1 0) (memory_of chip) (with 22 0x1f dots)
      ∷ writes (place (draws 22) 6 1 1) 0xe9 (place (draws 23) 6 1 1) (memory_of chip) (with 22 0x09 dots)
      ∷ writes (place (draws 22) 6 0 0) 0x16 (place (draws 21) 6 0 0) (memory_of chip) (with 22 0x16 dots)
      ∷ writes (place (draws 22) 6 0 1) 0x00 (place (draws 21) 6 0 1) (memory_of chip) (with 22 0x00 dots)
      ∷ writes (place (draws 31) 6 1 1) 0x20 (place (draws 0) 6 1 1) (memory_of chip) (with 31 0x00 dots)
      ∷ writes (place (draws 0) 6 0 1) 0x1e (place (draws 31) 6 0 1) (memory_of chip) (with 0 0x1e dots)
      ∷ writes (place (draws 15) 6 1 0) 0x1e (place (draws 16) 6 1 0) (memory_of chip) (with 15 0x1e dots)
      ∷ writes (place (draws 16) 6 0 0) 0x1e (place (draws 15) 6 0 0) (memory_of chip) (with 16 0x1e dots)
      ∷ writes (place (draws 9) 6 1 0) 0x1e (place (draws 10) 6 1 0) (memory_of chip) (with 9 0x1e dots)
      ∷ pair_writes (up 4) 0xf6 (regs (draws 23) 11 1 0 0 1 0 4 10) (memory_of chip) (with 22 0x16 dots)
      ∷ []

  -- a data read at width 8, with other data on the record: registers before, byte, registers afterwards; the memories stay
  abbrev reads : Registers → ℕ → Registers → Row
  reads before byte after = row (panel_on chip before 900 Empty 800) (transfer_at 3 1_000 0xa7) 0 byte 14 (panel_on chip after short Empty 1_000)

  -- the byte at the address, then the address moves by I/D; no shift whatever S is. Place 9 of display memory holds 69h; places 22, 31, 0, 15, 16
  -- and 8 of pattern memory 25, 28, 7, 12, 23 and 31
  abbrev data_reads : List Row
  data_reads =
      reads (place (shows 9) 6 1 0) 0x69 (place (shows 10) 6 1 0)
      ∷ reads (place (shows 9) 6 1 1) 0x69 (place (shows 10) 6 1 1)
      ∷ reads (place (shows 9) 6 0 0) 0x69 (place (shows 8) 6 0 0)
      ∷ reads (place (shows 9) 6 0 1) 0x69 (place (shows 8) 6 0 1)
      ∷ reads (place (draws 22) 6 1 1) 25 (place (draws 23) 6 1 1)
      ∷ reads (place (draws 22) 6 0 1) 25 (place (draws 21) 6 0 1)
      ∷ reads (place (draws 31) 6 1 1) 28 (place (draws 0) 6 1 1)
      ∷ reads (place (draws 0) 6 0 1) 7 (place (draws 31) 6 0 1)
      ∷ reads (place (draws 15) 6 1 0) 12 (place (draws 16) 6 1 0)
      ∷ reads (place (draws 16) 6 0 0) 23 (place (draws 15) 6 0 0)
      ∷ reads (up 8) 25 (regs (draws 23) 11 1 0 0 1 0 8 10)
      ∷ reads (place (draws 8) 6 1 0) 31 (place (draws 9) 6 1 0)
      ∷ []

  -- a reset gives a fresh panel, but for the last time, the busy end, which is the time and the reset time, 30,011, and the chip and the three
  -- times, which stay: free; while busy, with a half that waits or that was ignored; at the last time
  abbrev resets : List Row
  resets =
      row (panel_on chip (up 8) 900 Empty 800) (reset_at 1_000) 0 0 12 (afresh_of chip 31_011 1_000)
      ∷ row (panel_on chip (down 8) 60_000 Empty 800) (reset_at 1_000) 0 0 12 (afresh_of chip 31_011 1_000)
      ∷ row (panel_on chip (down 4) 900 (held 0 0 3) 800) (reset_at 1_000) 0 0 12 (afresh_of chip 31_011 1_000)
      ∷ row (panel_on chip (up 4) 5_000 (missed 1 0) 800) (reset_at 800) 0 0 12 (afresh_of chip 30_811 800)
      ∷ []

  -- the rows of both chips
  abbrev instructions : List Row
  instructions = clears ++ homes ++ settings ++ addresses ++ moves ++ turns

  abbrev transfers : List Row
  transfers = display_writes ++ pattern_writes ++ data_reads ++ resets

-- ON ONE LINE: a display address keeps four bits, and wraps 15 to 0 and 0 to 15. Places 15 and 0 hold 0Fh and F0h
abbrev on_one_line : List Row
on_one_line =
    sets 31 0x90 (shows 0) ++ sets 31 0xff (shows 15)
    ++ (whole 31 (place (shows 15) 6 0 1) 0x14 (place (shows 0) 6 0 1) short
    ∷ whole 31 (place (shows 0) 6 1 1) 0x10 (place (shows 15) 6 1 1) short
    ∷ writes 31 (place (shows 15) 15 1 1) 0x00 (place (shows 0) 0 1 1) (changed 31 15 0x00) dots
    ∷ writes 31 (place (shows 0) 0 0 1) 0x01 (place (shows 15) 15 0 1) (changed 31 0 0x01) dots
    ∷ writes 31 (place (shows 15) 15 1 0) 0x02 (place (shows 0) 15 1 0) (changed 31 15 0x02) dots
    ∷ writes 31 (place (shows 0) 0 0 0) 0x80 (place (shows 15) 0 0 0) (changed 31 0 0x80) dots
    ∷ reads 31 (place (shows 15) 15 1 1) 0x0f (place (shows 0) 15 1 1)
    ∷ reads 31 (place (shows 0) 0 0 1) 0xf0 (place (shows 15) 0 0 1)
    ∷ [])

-- ON TWO LINES: a display address keeps five bits, and runs on from 0F to 10 and from 1F to 00, and back; the shift goes round 16 as on one line.
-- Places 31, 16 and 15 hold 20h, 31h and 0Fh
abbrev on_two_lines : List Row
on_two_lines =
    sets 35 0x90 (shows 16) ++ sets 35 0x9f (shows 31) ++ sets 35 0xb5 (shows 21) ++ sets 35 0xd0 (shows 16) ++ sets 35 0xff (shows 31)
    ++ (whole 35 (place (shows 15) 6 0 1) 0x14 (place (shows 16) 6 0 1) short
    ∷ whole 35 (place (shows 16) 6 1 1) 0x10 (place (shows 15) 6 1 1) short
    ∷ whole 35 (place (shows 31) 6 0 1) 0x14 (place (shows 0) 6 0 1) short
    ∷ whole 35 (place (shows 0) 6 1 1) 0x10 (place (shows 31) 6 1 1) short
    ∷ whole 35 (place (shows 25) 15 0 1) 0x18 (place (shows 25) 0 0 1) short
    ∷ whole 35 (place (shows 25) 0 1 1) 0x1c (place (shows 25) 15 1 1) short
    ∷ writes 35 (place (shows 15) 6 1 0) 0x57 (place (shows 16) 6 1 0) (changed 35 15 0x57) dots
    ∷ writes 35 (place (shows 16) 6 1 1) 0x57 (place (shows 17) 7 1 1) (changed 35 16 0x57) dots
    ∷ writes 35 (place (shows 31) 15 1 1) 0x57 (place (shows 0) 0 1 1) (changed 35 31 0x57) dots
    ∷ writes 35 (place (shows 0) 0 0 1) 0x57 (place (shows 31) 15 0 1) (changed 35 0 0x57) dots
    ∷ writes 35 (place (shows 16) 6 0 0) 0x57 (place (shows 15) 6 0 0) (changed 35 16 0x57) dots
    ∷ reads 35 (place (shows 31) 6 1 1) 0x20 (place (shows 0) 6 1 1)
    ∷ reads 35 (place (shows 16) 6 0 1) 0x31 (place (shows 15) 6 0 1)
    ∷ reads 35 (place (shows 15) 6 1 0) 0x0f (place (shows 16) 6 1 0)
    -- Clear, Home and Function Set from the second line
    ∷ clear 35 (place (shows 25) 6 0 1) 0x01 (place (shows 0) 0 1 1)
    ∷ whole 35 (place (shows 25) 6 0 1) 0x03 (doubted (place (shows 0) 0 0 1)) long
    ∷ whole 35 (place (shows 25) 6 0 1) 0x3e (doubted (regs (shows 25) 6 0 1 1 0 1 8 14)) short
    -- a status read shows five bits of a display address: free, while busy, and the high half of two
    ∷ row (panel_on 35 (place (shows 25) 6 0 1) 900 Empty 800) (status_at 1_000) 2 0x19 14 (panel_on 35 (place (shows 25) 6 0 1) 900 Empty 1_000)
    ∷ row (panel_on 35 (place (shows 16) 6 0 1) 1_001 Empty 800) (status_at 1_000) 2 0x90 14 (panel_on 35 (place (shows 16) 6 0 1) 1_001 Empty 1_000)
    ∷ row (panel_on 35 (regs (shows 25) 6 0 1 1 0 1 4 5) 1_001 Empty 800) (status_at 1_000) 1 0x90 14 (panel_on 35 (regs (shows 25) 6 0 1 1 0 1 4 5) 1_001 (held 0 1 9) 1_000)
    ∷ [])

pub instructions_computed : Hold answered (instructions 31 ++ instructions 35)
unfolding recording
instructions_computed = refl

pub transfers_computed : Hold answered (transfers 31 ++ transfers 35)
unfolding recording
transfers_computed = refl

pub lines_computed : Hold answered (on_one_line ++ on_two_lines)
unfolding recording
lines_computed = refl

-- a fresh panel: the chip, and the three times in the order reset, long, short; of an unknown chip too
abbrev made : ℕ × ℕ × ℕ × ℕ → Panel
made given = fresh_panel given.0 given.1 given.2 given.3

pub fresh_computed :
    Hold made (((31, 30_011, 2_003, 71), afresh 0 0) ∷ ((35, 30_011, 2_003, 71), afresh_of 35 0 0) ∷ ((6, 30_011, 2_003, 71), afresh_of 6 0 0) ∷ [])
fresh_computed = refl
