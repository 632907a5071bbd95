-- THE TABLE OF WRITTEN PLACES (document 02, wish 3): the bits after a log, from a fresh panel of the times 10,000 / 1,640 / 40, and what the call then answers;
-- bit a, of weight 2^a, is 1 exactly when the byte at display address a isn't 20h. Where nothing else is said, records come 40 apart from 0.
use Rattle.std.specs.Prelude.{ℕ, zero, suc, ◌+◌, ◌-◌, ◌/◌, ◌%◌, ◌^◌, refl, Bool, true, false, List, [], ◌∷◌, ◌++◌, map, eqb, replicate}
use Rattle.std.proofs.Math.Option.{none, some}
use Rattle.laws.specs.Pick.{pick}
use Rattle.mirror.specs.Panel.{sound_panel}
use Rattle.mirror.specs.Stream.{run_of}
use Rattle.mirror.specs.Written.{WrittenPaper, written_paper, written_of}
use Rattle.mirror.specs.declared.half.Half.TheVariants.{Empty}
use Rattle.mirror.specs.declared.panel.Panel.{Panel}
use Rattle.demands.specs.cases.Logs.{answering, instruct_at, write_at, status_at, read_at, reset_at, bad_record, case_panel_of}
use Rattle.demands.specs.cases.RowCases.{Hold, recording, regs_of, marked, down, dots, memory_of, blank, places_in, panel_with, afresh_of}

-- what is asked of a chip and a log: the bits at the end, and the call's number and bits on paper
abbrev asked : ℕ × List ℕ → ℕ × WrittenPaper
asked given = let p = (run_of (case_panel_of given.0) given.1).panel in (p.sheet.registers.written, written_paper (written_of p))

abbrev Row : Type 0
Row = (ℕ × List ℕ) × (ℕ × WrittenPaper)

abbrev leaves : ℕ → List ℕ → ℕ → Row
leaves chip log bits = ((chip, log), (bits, record { number = none; bits = bits }))

-- so many letters written from where the address stands, 40 apart from a time
abbrev letters : ℕ → ℕ → List ℕ
letters zero t = []
letters (suc n) t = write_at t 0x41 ++ letters n (t + 40)

-- what the number of lines has no say in
abbrev either : ℕ → List Row
either chip =
    -- fresh
    leaves chip [] 0x0000_0000
    -- 57h
    ∷ leaves chip (write_at 0 0x57) 0x0000_0001
    -- 8Fh, 57h
    ∷ leaves chip (instruct_at 0 0x8f ++ write_at 40 0x57) 0x0000_8000
    -- a space on a fresh panel; over a letter; beside letters; every other byte isn't one, 00h and A0h too
    ∷ leaves chip (write_at 0 0x20) 0x0000_0000
    ∷ leaves chip (write_at 0 0x57 ++ instruct_at 40 0x80 ++ write_at 80 0x20) 0x0000_0000
    ∷ leaves chip (write_at 0 0x57 ++ write_at 40 0x20 ++ write_at 80 0x59) 0x0000_0005
    ∷ leaves chip (write_at 0 0x00 ++ write_at 40 0xa0 ++ write_at 80 0x21) 0x0000_0007
    -- a letter over a letter
    ∷ leaves chip (write_at 0 0x57 ++ instruct_at 40 0x80 ++ write_at 80 0x58) 0x0000_0001
    -- 07h, two letters: the display shifts, and no bit does; nor with 18h and 1Ch
    ∷ leaves chip (instruct_at 0 0x07 ++ write_at 40 0x57 ++ write_at 80 0x58) 0x0000_0003
    ∷ leaves chip (write_at 0 0x57 ++ instruct_at 40 0x18 ++ instruct_at 80 0x18) 0x0000_0001
    ∷ leaves chip (write_at 0 0x57 ++ instruct_at 40 0x1c) 0x0000_0001
    -- 40h, 57h: unchanged, with nothing written before and with something
    ∷ leaves chip (instruct_at 0 0x40 ++ write_at 40 0x57) 0x0000_0000
    ∷ leaves chip (instruct_at 0 0x83 ++ write_at 40 0x57 ++ instruct_at 80 0x40 ++ write_at 120 0x57 ++ write_at 160 0x20) 0x0000_0008
    -- Clear; and a letter after it
    ∷ leaves chip (write_at 0 0x57 ++ write_at 40 0x58 ++ instruct_at 80 0x01) 0x0000_0000
    ∷ leaves chip (write_at 0 0x57 ++ write_at 40 0x58 ++ instruct_at 80 0x01 ++ write_at 1_720 0x59) 0x0000_0001
    -- a reset
    ∷ leaves chip (write_at 0 0x57 ++ instruct_at 40 0x8f ++ write_at 80 0x58 ++ reset_at 120) 0x0000_0000
    -- Home, entry mode, the display bits, cursor moves, Function Set, address sets, none
    ∷ leaves chip (write_at 0 0x57 ++ instruct_at 40 0x02 ++ instruct_at 1_680 0x05 ++ instruct_at 1_720 0x0f ++ instruct_at 1_760 0x08) 0x0000_0001
    ∷ leaves chip (write_at 0 0x57 ++ instruct_at 40 0x14 ++ instruct_at 80 0x10 ++ instruct_at 120 0x3c ++ instruct_at 160 0x5f ++ instruct_at 200 0x80 ++ instruct_at 240 0x00) 0x0000_0001
    -- a good read, a doubtful one, a status read
    ∷ leaves chip (write_at 0 0x57 ++ instruct_at 40 0x80 ++ read_at 80) 0x0000_0001
    ∷ leaves chip (write_at 0 0x57 ++ read_at 40 ++ status_at 80) 0x0000_0001
    -- ignored: a write at 39, a space over a letter, Clear
    ∷ leaves chip (write_at 0 0x57 ++ write_at 39 0x58) 0x0000_0001
    ∷ leaves chip (write_at 0 0x57 ++ instruct_at 40 0x80 ++ write_at 79 0x20 ++ instruct_at 79 0x01) 0x0000_0001
    -- back in time, and bad
    ∷ leaves chip (write_at 40 0x57 ++ write_at 0 0x58 ++ bad_record) 0x0000_0001
    -- in halves after 20h: 57h; a pair that is torn; a first half alone
    ∷ leaves chip (instruct_at 0 0x20 ++ write_at 40 0x50 ++ write_at 41 0x70) 0x0000_0001
    ∷ leaves chip (instruct_at 0 0x20 ++ write_at 40 0x50 ++ instruct_at 41 0x70) 0x0000_0000
    ∷ leaves chip (instruct_at 0 0x20 ++ write_at 40 0x50) 0x0000_0000
    ∷ []

-- one line: the address wraps at 0F and takes four bits; sixteen letters, and the seventeenth over the first
abbrev one_line : List Row
one_line =
    leaves 31 (instruct_at 0 0x8f ++ write_at 40 0x57 ++ write_at 80 0x58) 0x0000_8001
    ∷ leaves 31 (instruct_at 0 0x04 ++ write_at 40 0x57 ++ write_at 80 0x58) 0x0000_8001
    ∷ leaves 31 (instruct_at 0 0x9f ++ write_at 40 0x57) 0x0000_8000
    ∷ leaves 31 (instruct_at 0 0x90 ++ write_at 40 0x57) 0x0000_0001
    ∷ leaves 31 (letters 16 0) 0x0000_ffff
    ∷ leaves 31 (letters 16 0 ++ write_at 640 0x20) 0x0000_fffe
    ∷ []

-- two lines: it runs on from 0F to 10 and from 1F to 00, and takes five bits
abbrev two_lines : List Row
two_lines =
    leaves 35 (instruct_at 0 0x9f ++ write_at 40 0x57) 0x8000_0000
    ∷ leaves 35 (instruct_at 0 0x9f ++ write_at 40 0x57 ++ instruct_at 80 0x9f ++ write_at 120 0x20) 0x0000_0000
    ∷ leaves 35 (instruct_at 0 0x8f ++ write_at 40 0x57 ++ write_at 80 0x58) 0x0001_8000
    ∷ leaves 35 (instruct_at 0 0x04 ++ write_at 40 0x57 ++ write_at 80 0x58) 0x8000_0001
    ∷ leaves 35 (instruct_at 0 0x90 ++ write_at 40 0x57 ++ instruct_at 80 0x01) 0x0000_0000
    ∷ leaves 35 (letters 32 0) 0xffff_ffff
    ∷ leaves 35 (letters 32 0 ++ write_at 1_280 0x20 ++ instruct_at 1_320 0x9f ++ write_at 1_360 0x20) 0x7fff_fffe
    ∷ []

pub written_computed : Hold asked (either 31 ++ either 35 ++ one_line ++ two_lines)
unfolding answering
written_computed = refl

-- a panel with other bits than its memory's; with one bit of these turned round
abbrev claiming : ℕ → ℕ → List ℕ → Panel
claiming bits chip display =
    let p = panel_with (regs_of chip (down 8)) display dots 900 Empty 800 in
    record { sheet = record { registers = marked bits p.sheet.registers; display = display; pattern = dots }; busy = 900; half = Empty; times = p.times; last = 800 }

abbrev turned : ℕ → List ℕ → ℕ
turned k display = let bits = places_in display in pick (eqb (bits / 2 ^ k % 2) 1) (bits - 2 ^ k) (bits + 2 ^ k)

-- each bit, from the highest
abbrev each_below : ℕ → List ℕ
each_below zero = []
each_below (suc k) = k ∷ each_below k

abbrev disagreeing : ℕ → List ℕ → List (Panel × Bool)
disagreeing chip display = (claiming (places_in display) chip display, true) ∷ map (λ k. (claiming (turned k display) chip display, false)) (each_below 32)

-- sixteen letters and sixteen spaces; 32 letters
abbrev full_line : List ℕ
full_line = replicate 16 0x41 ++ replicate 16 0x20

abbrev full_page : List ℕ
full_page = replicate 32 0x41

-- unsound at any bit: an empty memory, a full one and one with a space among its letters, of each chip
pub disagreement_computed : Hold sound_panel
    (disagreeing 31 blank ++ disagreeing 31 full_line ++ disagreeing 31 (memory_of 31) ++ disagreeing 35 blank ++ disagreeing 35 full_page ++ disagreeing 35 (memory_of 35))
unfolding recording
disagreement_computed = refl

-- the call on a panel that is not sound is refused with 10: by one bit, or by its chip; of a sound one it is the bits
abbrev refusals : List (Panel × WrittenPaper)
refusals =
    (claiming 0x0000_ffff 31 full_line, record { number = none; bits = 0x0000_ffff })
    ∷ (claiming 0x0001_ffff 31 full_line, record { number = some 10; bits = 0 })
    ∷ (claiming 0x0000_7fff 31 full_line, record { number = some 10; bits = 0 })
    ∷ (claiming 0xffff_ffff 35 full_page, record { number = none; bits = 0xffff_ffff })
    ∷ (claiming 0x7fff_ffff 35 full_page, record { number = some 10; bits = 0 })
    ∷ (afresh_of 36 0 0, record { number = some 10; bits = 0 })
    ∷ []

pub refusals_computed : Hold (λ p. written_paper (written_of p)) refusals
unfolding recording
refusals_computed = refl
