-- THE TABLE OF HALVES AND OF BUSY (document 01, "Busy" and "Halves"): what a transfer comes to by the half that waits and by the busy end.
use Rattle.std.specs.Prelude.{ℕ, refl, List, [], ◌∷◌, ◌++◌, map}
use Rattle.chip.specs.declared.registers.Registers.{Registers}
use Rattle.mirror.specs.declared.half.Half.{Half}
use Rattle.mirror.specs.declared.half.Half.TheVariants.{Empty}
use Rattle.demands.specs.cases.Logs.{instruct_at, write_at, status_at, read_at, transfer_at}
use Rattle.demands.specs.cases.RowCases.{Hold, Row, row, answered, recording, shows, draws, regs, down, up, codes, dots, with, panel_with, panel, doubted, held, missed}

-- a record at 1,000 that changes only the last time and the half: registers, busy end, half before; bytes; number, byte, half afterwards
abbrev keeps : Registers → ℕ → Half → List ℕ → ℕ → ℕ → Half → Row
keeps registers busy before bytes number byte after =
    row (panel registers busy before 800) bytes number byte 14 (panel registers busy after 1_000)

-- Busy at width 8: free at the busy end, 1,000, and busy one before it. A status read is never ignored: bit 7 while busy, the address below it
abbrev wholes : List Row
wholes =
    row (panel (down 8) 1_000 Empty 800) (instruct_at 1_000 0x04) 0 0 14 (panel (doubted (regs (shows 9) 6 0 0 1 0 1 8 5)) 1_071 Empty 1_000)
    ∷ row (panel (down 8) 1_000 Empty 800) (read_at 1_000) 0 0x69 14 (panel (regs (shows 8) 6 0 1 1 0 1 8 5) 1_071 Empty 1_000)
    ∷ keeps (down 8) 1_001 Empty (instruct_at 1_000 0x04) 3 0 Empty
    ∷ keeps (down 8) 1_001 Empty (instruct_at 1_000 0x01) 3 0 Empty
    ∷ keeps (down 8) 1_001 Empty (write_at 1_000 0x57) 3 0 Empty
    ∷ keeps (down 8) 1_001 Empty (read_at 1_000) 3 0 Empty
    ∷ keeps (down 8) 1_000 Empty (status_at 1_000) 2 0x09 Empty
    ∷ keeps (down 8) 1_001 Empty (status_at 1_000) 2 0x89 Empty
    ∷ keeps (up 8) 1_000 Empty (status_at 1_000) 2 0x16 Empty
    ∷ keeps (up 8) 1_001 Empty (status_at 1_000) 2 0x96 Empty
    ∷ keeps (regs (shows 15) 6 0 1 1 0 1 8 5) 1_000 Empty (transfer_at 2 1_000 0xff) 2 0x0f Empty
    ∷ keeps (regs (draws 31) 6 0 1 1 0 1 8 5) 1_001 Empty (transfer_at 2 1_000 0xff) 2 0x9f Empty
    -- 00h: none while free, with no busy time; ignored while busy
    ∷ keeps (down 8) 1_000 Empty (instruct_at 1_000 0x00) 7 0 Empty
    ∷ keeps (up 8) 0 Empty (instruct_at 1_000 0x00) 7 0 Empty
    ∷ keeps (down 8) 1_001 Empty (instruct_at 1_000 0x00) 3 0 Empty
    ∷ []

-- First halves at width 4. Held while free: the high half of what is written, or a byte read in the high four bits, whose low half waits.
-- Place 9 of display memory holds 69h and entry 22 of pattern memory 19h
abbrev firsts : List Row
firsts =
    keeps (down 4) 900 Empty (instruct_at 1_000 0x8b) 1 0 (held 0 0 8)
    ∷ keeps (down 4) 1_000 Empty (instruct_at 1_000 0x0b) 1 0 (held 0 0 0)
    ∷ keeps (up 4) 900 Empty (write_at 1_000 0x5f) 1 0 (held 1 0 5)
    ∷ keeps (down 4) 900 Empty (read_at 1_000) 1 0x60 (held 1 1 9)
    ∷ keeps (up 4) 900 Empty (transfer_at 3 1_000 0xff) 1 0x10 (held 1 1 9)
    ∷ keeps (down 4) 1_000 Empty (status_at 1_000) 1 0x00 (held 0 1 9)
    ∷ keeps (up 4) 1_000 Empty (status_at 1_000) 1 0x10 (held 0 1 6)
    -- while busy all but a status read are ignored, and wait marked so
    ∷ keeps (down 4) 1_001 Empty (status_at 1_000) 1 0x80 (held 0 1 9)
    ∷ keeps (up 4) 1_001 Empty (status_at 1_000) 1 0x90 (held 0 1 6)
    ∷ keeps (down 4) 1_001 Empty (instruct_at 1_000 0x8b) 3 0 (missed 0 0)
    ∷ keeps (down 4) 1_001 Empty (instruct_at 1_000 0x00) 3 0 (missed 0 0)
    ∷ keeps (down 4) 1_001 Empty (write_at 1_000 0x5f) 3 0 (missed 1 0)
    ∷ keeps (up 4) 1_001 Empty (read_at 1_000) 3 0 (missed 1 1)
    ∷ []

-- Second halves of a pair begun while free are carried out at their own time, even where the busy end, 5,000, lies later; what is read was fixed at
-- the first half, and need not be what is at the address now
abbrev seconds : List Row
seconds =
    row (panel (down 4) 5_000 (held 0 0 8) 800) (instruct_at 1_000 0x5f) 0 0 14 (panel (regs (shows 5) 6 0 1 1 0 1 4 5) 1_071 Empty 1_000)
    ∷ row (panel (down 4) 5_000 (held 0 0 0) 800) (instruct_at 1_000 0x20) 0 0 14 (panel (doubted (regs (shows 0) 0 0 1 1 0 1 4 5)) 3_003 Empty 1_000)
    ∷ row (panel (down 4) 5_000 (held 1 0 0xa) 800) (write_at 1_000 0x5f) 0 0 14
    (panel_with (doubted (regs (shows 8) 5 0 1 1 0 1 4 5)) (with 9 0xa5 codes) dots 1_071 Empty 1_000)
    ∷ row (panel (down 4) 900 (held 1 1 3) 800) (read_at 1_000) 0 0x30 14 (panel (regs (shows 8) 6 0 1 1 0 1 4 5) 1_071 Empty 1_000)
    ∷ row (panel (up 4) 5_000 (held 1 1 12) 800) (transfer_at 3 1_000 0xff) 0 0xc0 14 (panel (regs (draws 23) 11 1 0 0 1 0 4 10) 1_071 Empty 1_000)
    ∷ keeps (down 4) 900 (held 0 1 12) (status_at 1_000) 2 0xc0 Empty
    ∷ keeps (up 4) 5_000 (held 0 1 3) (transfer_at 2 1_000 0xff) 2 0x30 Empty
    -- 00h in two halves
    ∷ keeps (down 4) 900 (held 0 0 0) (instruct_at 1_000 0x0f) 7 0 Empty
    ∷ keeps (down 4) 5_000 (held 0 0 0) (instruct_at 1_000 0x00) 7 0 Empty
    -- a pair begun while busy is ignored in its second half too, free or not
    ∷ keeps (down 4) 900 (missed 0 0) (instruct_at 1_000 0x5f) 3 0 Empty
    ∷ keeps (down 4) 900 (missed 0 0) (instruct_at 1_000 0x00) 3 0 Empty
    ∷ keeps (down 4) 5_000 (missed 0 0) (instruct_at 1_000 0x5f) 3 0 Empty
    ∷ keeps (down 4) 900 (missed 1 0) (write_at 1_000 0x5f) 3 0 Empty
    ∷ keeps (up 4) 900 (missed 1 1) (read_at 1_000) 3 0 Empty
    ∷ keeps (up 4) 5_000 (missed 1 1) (read_at 1_000) 3 0 Empty
    ∷ []

-- Torn: RS and R/W of a half that waits, and the controls of second halves that differ from it; free, busy, and marked ignored
abbrev tears : ℕ → Half → List ℕ → List Row
tears busy half controls = map (λ control. keeps (down 4) busy half (transfer_at control 1_000 0x7f) 4 0 Empty) controls

abbrev torn : List Row
torn =
    tears 900 (held 0 0 6) (1 ∷ 2 ∷ 3 ∷ []) ++ tears 900 (held 1 0 6) (0 ∷ 2 ∷ 3 ∷ [])
    ++ tears 900 (held 0 1 6) (0 ∷ 1 ∷ 3 ∷ []) ++ tears 900 (held 1 1 6) (0 ∷ 1 ∷ 2 ∷ [])
    ++ tears 5_000 (held 0 0 6) (1 ∷ 2 ∷ 3 ∷ []) ++ tears 5_000 (held 0 1 6) (0 ∷ 1 ∷ 3 ∷ [])
    ++ tears 900 (missed 0 0) (1 ∷ 2 ∷ 3 ∷ []) ++ tears 5_000 (missed 0 0) (1 ∷ 2 ∷ 3 ∷ [])
    ++ tears 900 (missed 1 0) (0 ∷ 2 ∷ 3 ∷ []) ++ tears 5_000 (missed 1 1) (0 ∷ 1 ∷ 2 ∷ [])
    -- 00h tears too
    ++ (keeps (down 4) 900 (held 0 1 6) (instruct_at 1_000 0x00) 4 0 Empty ∷ [])

pub halves_computed : Hold answered (wholes ++ firsts ++ seconds ++ torn)
unfolding recording
halves_computed = refl
