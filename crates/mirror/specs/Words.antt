-- Words that the table of answers is written in (document 01, "Busy", "Halves"; of good reads, document 02, wish 2); the engine's definitions use them too.
use Rattle.std.specs.Prelude.{ℕ, ◌+◌, ◌*◌, ◌%◌, ◌/◌, Bool, leb}
use Rattle.laws.specs.Pick.{pick}
use Rattle.chip.specs.Address.{address_number}
use Rattle.chip.specs.Sheet.{read_here}
use Rattle.chip.specs.declared.sheet.Sheet.{Sheet}
use Rattle.mirror.specs.declared.half.Half.{Half}
use Rattle.mirror.specs.declared.half.Half.TheVariants.{Empty, Ignored, Waiting}
use Rattle.mirror.specs.declared.panel.Panel.{Panel}

-- a transfer is free when its time is at or after the busy end
abbrev pub free : ℕ → Panel → Bool
free time p = leb p.busy time

-- a status read: bit 7 is 1 while busy, bits 6 to 0 are the address
abbrev pub status_of : ℕ → Panel → ℕ
status_of time p =
    let n = address_number p.sheet.registers.chip p.sheet.registers.address in
    pick (free time p) n (128 + n)

-- the byte at the address
abbrev pub here_of : Panel → ℕ
here_of p = read_here p.sheet.registers p.sheet.display p.sheet.pattern

-- whether the next read is good
abbrev pub is_good : Panel → Bool
is_good p = p.sheet.registers.good

-- what a data read gives: the byte at the address where it is good, and 0 where it is not
abbrev pub read_byte : Panel → ℕ
read_byte p = pick (is_good p) (here_of p) 0

-- the last time set, and the half that then waits
abbrev pub holding : ℕ → Half → Panel → Panel
holding time half p = record { sheet = p.sheet; busy = p.busy; half = half; times = p.times; last = time }

-- carried out: the sheet, the busy end at the record's time plus the execution time, no half
abbrev pub done : ℕ → Sheet → ℕ → Panel → Panel
done time sheet span p = record { sheet = sheet; busy = time + span; half = Empty; times = p.times; last = time }

-- the high half of a byte, in the high four bits
abbrev pub high : ℕ → ℕ
high b = b / 16 * 16

-- the nibble that waits
abbrev pub nibble_of : Half → ℕ
nibble_of Empty = 0
nibble_of (Ignored rs reads) = 0
nibble_of (Waiting rs reads nibble) = nibble % 16

-- at width 8 the data byte is used in full; at width 4 the first transfer gives the high half, the second the low half
abbrev pub joined_of : Bool → Half → ℕ → ℕ
joined_of eight half bus = pick eight bus (nibble_of half * 16 + bus / 16)
