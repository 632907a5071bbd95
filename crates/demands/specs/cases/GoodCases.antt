-- THE TABLE OF GOOD READS (document 02, wish 2): what each record does to whether the next read is good, from panels where it is and where it is not, and
-- what a read that is not good comes to. Each at the time 1,000, free since 900, on either chip; where the panel before is good and the record makes it not
-- good, the row stands in the table of steps.
use Rattle.std.specs.Prelude.{ℕ, ◌*◌, ◌/◌, ◌%◌, ◌+◌, refl, List, [], ◌∷◌, ◌++◌, map}
use Rattle.chip.specs.declared.registers.Registers.{Registers}
use Rattle.mirror.specs.declared.half.Half.{Half}
use Rattle.mirror.specs.declared.half.Half.TheVariants.{Empty}
use Rattle.demands.specs.cases.Logs.{instruct_at, write_at, status_at, read_at, transfer_at, reset_at, bad_record}
use Rattle.demands.specs.cases.RowCases.{Hold, Row, row, answered, recording, shows, draws, regs, regs_of, doubted, down, up, memory_of, dots, with, panel_with, panel_on, held, missed, afresh_of}

-- the busy end after 1,000 with the short time, 71, and with the long time, 2,003
abbrev short : ℕ
short = 1_071

abbrev long : ℕ
long = 3_003

module _ (chip : ℕ) where
  -- an instruction from registers that are not good: code; registers, busy end afterwards; whole, and as the second of two halves
  abbrev whole : Registers → ℕ → Registers → ℕ → Row
  whole before code after busy = row (panel_on chip (doubted before) 900 Empty 800) (instruct_at 1_000 code) 0 0 14 (panel_on chip after busy Empty 1_000)

  abbrev paired : Registers → ℕ → Registers → ℕ → Row
  paired before code after busy =
      row (panel_on chip (doubted before) 900 (held 0 0 (code / 16)) 800) (instruct_at 1_000 (code % 16 * 16 + 11)) 0 0 14 (panel_on chip after busy Empty 1_000)

  -- address sets make it good, in either memory and from either
  abbrev sets : List Row
  sets =
      whole (down 8) 0x40 (regs (draws 0) 6 0 1 1 0 1 8 5) short
      ∷ whole (up 8) 0x7f (regs (draws 31) 11 1 0 0 1 0 8 10) short
      ∷ whole (down 8) 0x80 (regs (shows 0) 6 0 1 1 0 1 8 5) short
      ∷ whole (up 8) 0x8f (regs (shows 15) 11 1 0 0 1 0 8 10) short
      ∷ paired (down 4) 0x55 (regs (draws 21) 6 0 1 1 0 1 4 5) short
      ∷ paired (up 4) 0x85 (regs (shows 5) 11 1 0 0 1 0 4 10) short
      ∷ []

  -- 10h to 17h make it good in display memory, and leave it not good in pattern memory
  abbrev moves : List Row
  moves =
      map (λ code. whole (down 8) code (regs (shows 8) 6 0 1 1 0 1 8 5) short) (0x10 ∷ 0x11 ∷ 0x12 ∷ 0x13 ∷ [])
      ++ map (λ code. paired (down 4) code (regs (shows 10) 6 0 1 1 0 1 4 5) short) (0x14 ∷ 0x15 ∷ 0x16 ∷ 0x17 ∷ [])
      ++ map (λ code. paired (up 4) code (doubted (regs (draws 21) 11 1 0 0 1 0 4 10)) short) (0x10 ∷ 0x11 ∷ 0x12 ∷ 0x13 ∷ [])
      ++ map (λ code. whole (up 8) code (doubted (regs (draws 23) 11 1 0 0 1 0 8 10)) short) (0x14 ∷ 0x15 ∷ 0x16 ∷ 0x17 ∷ [])

  -- 18h to 1Fh leave it as it was, in either memory
  abbrev shifts : List Row
  shifts =
      map (λ code. whole (down 8) code (doubted (regs (shows 9) 7 0 1 1 0 1 8 5)) short) (0x18 ∷ 0x19 ∷ 0x1a ∷ 0x1b ∷ [])
      ++ map (λ code. paired (up 4) code (doubted (regs (draws 22) 10 1 0 0 1 0 4 10)) short) (0x1c ∷ 0x1d ∷ 0x1e ∷ 0x1f ∷ [])

  -- every other instruction leaves it not good
  abbrev others : List Row
  others =
      whole (down 8) 0x02 (doubted (regs (shows 0) 0 0 1 1 0 1 8 5)) long
      ∷ whole (up 8) 0x03 (doubted (regs (shows 0) 0 1 0 0 1 0 8 10)) long
      ∷ whole (down 8) 0x06 (doubted (regs (shows 9) 6 1 0 1 0 1 8 5)) short
      ∷ whole (up 8) 0x0c (doubted (regs (draws 22) 11 1 0 1 0 0 8 10)) short
      ∷ paired (down 4) 0x2a (doubted (regs (shows 9) 6 0 1 1 0 1 4 10)) short
      ∷ whole (up 8) 0x35 (doubted (regs (draws 22) 11 1 0 0 1 0 8 5)) short
      ∷ row (panel_on chip (doubted (down 8)) 900 Empty 800) (write_at 1_000 0x57) 0 0 14
      (panel_with (regs_of chip (doubted (regs (shows 8) 5 0 1 1 0 1 8 5))) (with 9 0x57 (memory_of chip)) dots short Empty 1_000)
      ∷ row (panel_on chip (doubted (up 8)) 900 Empty 800) (write_at 1_000 0xf6) 0 0 14
      (panel_with (regs_of chip (doubted (regs (draws 23) 11 1 0 0 1 0 8 10))) (memory_of chip) (with 22 0x16 dots) short Empty 1_000)
      ∷ row (panel_on chip (doubted (up 8)) 5_000 Empty 800) (reset_at 1_000) 0 0 12 (afresh_of chip 31_011 1_000)
      ∷ []

  -- a read that is not good: 11 and byte 0, the address moves by I/D, no shift, the short time; and the next is good. The data on the record is not looked at
  abbrev reads : List Row
  reads =
      row (panel_on chip (doubted (down 8)) 900 Empty 800) (read_at 1_000) 11 0 14 (panel_on chip (regs (shows 8) 6 0 1 1 0 1 8 5) short Empty 1_000)
      ∷ row (panel_on chip (doubted (up 8)) 900 Empty 800) (transfer_at 3 1_000 0xa7) 11 0 14 (panel_on chip (regs (draws 23) 11 1 0 0 1 0 8 10) short Empty 1_000)
      ∷ row (panel_on chip (doubted (regs (draws 31) 6 1 1 1 0 1 8 5)) 1_000 Empty 1_000) (read_at 1_000) 11 0 14 (panel_on chip (regs (draws 0) 6 1 1 1 0 1 8 5) short Empty 1_000)
      -- as two halves both carry 0, the first answered as held, with nibble 0 for the second
      ∷ row (panel_on chip (doubted (down 4)) 900 Empty 800) (read_at 1_000) 1 0 14 (panel_on chip (doubted (down 4)) 900 (held 1 1 0) 1_000)
      ∷ row (panel_on chip (doubted (up 4)) 900 Empty 800) (transfer_at 3 1_000 0xff) 1 0 14 (panel_on chip (doubted (up 4)) 900 (held 1 1 0) 1_000)
      ∷ row (panel_on chip (doubted (down 4)) 900 (held 1 1 0) 800) (read_at 1_000) 11 0 14 (panel_on chip (regs (shows 8) 6 0 1 1 0 1 4 5) short Empty 1_000)
      -- whatever nibble waits in a panel that is handed in, and though the busy end lies later
      ∷ row (panel_on chip (doubted (up 4)) 5_000 (held 1 1 7) 800) (transfer_at 3 1_000 0xff) 11 0 14 (panel_on chip (regs (draws 23) 11 1 0 0 1 0 4 10) short Empty 1_000)
      ∷ []

  -- what is not carried out leaves it as it was, whichever that is: registers, busy end, half before; bytes; number, byte, bytes used, half, last time
  abbrev leaves : Registers → ℕ → Half → List ℕ → ℕ → ℕ → ℕ → Half → ℕ → List Row
  leaves registers busy before bytes number byte used after last =
      row (panel_on chip registers busy before 800) bytes number byte used (panel_on chip registers busy after last)
      ∷ row (panel_on chip (doubted registers) busy before 800) bytes number byte used (panel_on chip (doubted registers) busy after last)
      ∷ []

  abbrev left : List Row
  left =
      leaves (down 8) 900 Empty (status_at 1_000) 2 0x09 14 Empty 1_000
      ++ leaves (down 8) 1_001 Empty (write_at 1_000 0x57) 3 0 14 Empty 1_000
      ++ leaves (up 8) 1_001 Empty (instruct_at 1_000 0x80) 3 0 14 Empty 1_000
      ++ leaves (up 8) 1_001 Empty (read_at 1_000) 3 0 14 Empty 1_000
      ++ leaves (down 8) 900 Empty (instruct_at 1_000 0x00) 7 0 14 Empty 1_000
      ++ leaves (up 8) 900 Empty (write_at 799 0x57) 5 0 14 Empty 800
      ++ leaves (up 8) 900 Empty (reset_at 799) 5 0 12 Empty 800
      ++ leaves (down 8) 900 Empty bad_record 6 0 4 Empty 800
      ++ leaves (down 8) 900 Empty (12 ∷ []) 8 0 0 Empty 800
      -- halves: held, torn, of a status read, and ignored
      ++ leaves (down 4) 900 Empty (instruct_at 1_000 0x80) 1 0 14 (held 0 0 8) 1_000
      ++ leaves (up 4) 900 Empty (write_at 1_000 0x5f) 1 0 14 (held 1 0 5) 1_000
      ++ leaves (down 4) 900 (held 1 0 5) (read_at 1_000) 4 0 14 Empty 1_000
      ++ leaves (down 4) 900 (held 1 1 0) (write_at 1_000 0x5f) 4 0 14 Empty 1_000
      ++ leaves (up 4) 900 (held 0 1 6) (status_at 1_000) 2 0x60 14 Empty 1_000
      ++ leaves (up 4) 1_001 Empty (read_at 1_000) 3 0 14 (missed 1 1) 1_000
      ++ leaves (up 4) 900 (missed 1 1) (read_at 1_000) 3 0 14 Empty 1_000

  abbrev goods : List Row
  goods = sets ++ moves ++ shifts ++ others ++ reads ++ left

pub goods_computed : Hold answered (goods 31 ++ goods 35)
unfolding recording
goods_computed = refl
