-- What the tables of computed rows say, and the panels that they start from: panels that are nowhere fresh. Every row is worked out from document 01 and
-- none from a definition, so that a definition that misreads the paper makes a row fail.
use Rattle.std.specs.Prelude.{ℕ, zero, suc, ◌+◌, ◌*◌, eqb, ◌≡◌, Bool, true, false, List, [], ◌∷◌, ◌++◌, map, replicate}
use Rattle.laws.specs.Pick.{pick}
use Rattle.chip.specs.Address.{display, pattern}
use Rattle.chip.specs.declared.address.Address.{Address}
use Rattle.chip.specs.declared.address.Address.TheVariants.{Display, Pattern}
use Rattle.chip.specs.declared.registers.Registers.{Registers}
use Rattle.mirror.specs.Answer.{number_of}
use Rattle.mirror.specs.Table.{record_of}
use Rattle.mirror.specs.declared.half.Half.{Half}
use Rattle.mirror.specs.declared.half.Half.TheVariants.{Empty, Ignored, Waiting}
use Rattle.mirror.specs.declared.panel.Panel.{Panel}
use Rattle.demands.specs.cases.Logs.{answering}

-- THE STATEMENT: what is asked of each row's left side is its right side
abbrev pub Hold : {A B : Type 0} → (A → B) → List (A × B) → Type 0
Hold asked rows = map (λ row. asked row.0) rows ≡ map (λ row. row.1) rows

-- what is asked of a panel and a log: the answer's number, its bus byte, the bytes used, and the panel afterwards
pub record Shown : Type 0 where
  pub number : ℕ
  pub byte : ℕ
  pub used : ℕ
  pub panel : Panel

abbrev pub answered : Panel × List ℕ → Shown
answered given =
    let r = record_of given.0 given.1 in
    record { number = number_of r.answer; byte = r.byte; used = r.used; panel = r.panel }

-- a row of records: panel before, bytes; number, byte, bytes used, panel afterwards
abbrev pub Row : Type 0
Row = (Panel × List ℕ) × Shown

abbrev pub row : Panel → List ℕ → ℕ → ℕ → ℕ → Panel → Row
row before bytes number byte used after = ((before, bytes), record { number = number; byte = byte; used = used; panel = after })

-- what computes when a record is answered
unfoldable pub recording : ℕ
unfolding answering record_of
recording = 0

-- an address of display memory, and of pattern memory
abbrev pub shows : ℕ → Address
shows n = Display (display n)

abbrev pub draws : ℕ → Address
draws n = Pattern (pattern n)

-- a bit that the paper writes 0 or 1
abbrev bit : ℕ → Bool
bit n = eqb n 1

-- registers of the chip with one line, in the paper's order: address; shift; I/D, S; D, C, B; width, 8 or 4; Function Set bits. The next read is good
abbrev pub regs : Address → ℕ → ℕ → ℕ → ℕ → ℕ → ℕ → ℕ → ℕ → Registers
regs address shift up follow on cursor blink width function =
    record {
      chip = 31;
      address = address;
      shift = shift;
      up = bit up;
      follow = bit follow;
      on = bit on;
      cursor = bit cursor;
      blink = bit blink;
      eight = eqb width 8;
      function = function;
      good = true;
      written = 0;
    }

-- registers with the chip, whether the next read is good, and which places are written, set anew
abbrev regs_with : ℕ → Bool → ℕ → Registers → Registers
regs_with chip good written r =
    record {
      chip = chip;
      address = r.address;
      shift = r.shift;
      up = r.up;
      follow = r.follow;
      on = r.on;
      cursor = r.cursor;
      blink = r.blink;
      eight = r.eight;
      function = r.function;
      good = good;
      written = written;
    }

-- the same of another chip; and where the next read is not good
abbrev pub regs_of : ℕ → Registers → Registers
regs_of chip r = regs_with chip r.good r.written r

abbrev pub doubted : Registers → Registers
doubted r = regs_with r.chip false r.written r

-- and with these places written
abbrev pub marked : ℕ → Registers → Registers
marked written r = regs_with r.chip r.good written r

-- two settings in which every bit differs, at a width
abbrev pub down : ℕ → Registers
down width = regs (shows 9) 6 0 1 1 0 1 width 5

abbrev pub up : ℕ → Registers
up width = regs (draws 22) 11 1 0 0 1 0 width 10

-- display memory of a chip, and pattern memory, with every place different; on one line the sixteen places past the line are 20h
abbrev first_line : List ℕ
first_line = 0xf0 ∷ 0xe1 ∷ 0xd2 ∷ 0xc3 ∷ 0xb4 ∷ 0xa5 ∷ 0x96 ∷ 0x87 ∷ 0x78 ∷ 0x69 ∷ 0x5a ∷ 0x4b ∷ 0x3c ∷ 0x2d ∷ 0x1e ∷ 0x0f ∷ []

abbrev second_line : List ℕ
second_line = 0x31 ∷ 0x42 ∷ 0x53 ∷ 0x64 ∷ 0x75 ∷ 0x86 ∷ 0x97 ∷ 0xa8 ∷ 0xb9 ∷ 0xca ∷ 0xdb ∷ 0xec ∷ 0xfd ∷ 0x0e ∷ 0x1f ∷ 0x20 ∷ []

abbrev pub memory_of : ℕ → List ℕ
memory_of chip = first_line ++ pick (eqb chip 35) second_line (replicate 16 0x20)

abbrev pub codes : List ℕ
codes = memory_of 31

abbrev pub dots : List ℕ
dots =
    7 ∷ 18 ∷ 29 ∷ 8 ∷ 19 ∷ 30 ∷ 9 ∷ 20 ∷ 31 ∷ 10 ∷ 21 ∷ 0 ∷ 11 ∷ 22 ∷ 1 ∷ 12
    ∷ 23 ∷ 2 ∷ 13 ∷ 24 ∷ 3 ∷ 14 ∷ 25 ∷ 4 ∷ 15 ∷ 26 ∷ 5 ∷ 16 ∷ 27 ∷ 6 ∷ 17 ∷ 28 ∷ []

-- a memory with another byte at one address
abbrev pub with : ℕ → ℕ → List ℕ → List ℕ
with at byte [] = []
with zero byte (old ∷ rest) = byte ∷ rest
with (suc at) byte (old ∷ rest) = old ∷ with at byte rest

-- which places of a memory are written: 1 for the first if it isn't 20h, 2 for the second, 4 for the third, and so on (document 02, wish 3)
abbrev pub places_in : List ℕ → ℕ
places_in [] = 0
places_in (byte ∷ rest) = pick (eqb byte 0x20) 0 1 + 2 * places_in rest

-- a panel whose three times are 30,011 / 2,003 / 71: registers, both memories, busy end, half, last time. The places written are those of its memory
abbrev pub panel_with : Registers → List ℕ → List ℕ → ℕ → Half → ℕ → Panel
panel_with registers display pattern busy half last =
    record {
      sheet = record { registers = marked (places_in display) registers; display = display; pattern = pattern };
      busy = busy;
      half = half;
      times = record { reset = 30_011; long = 2_003; short = 71 };
      last = last;
    }

-- the same of a chip, with the memories above; and of the chip with one line
abbrev pub panel_on : ℕ → Registers → ℕ → Half → ℕ → Panel
panel_on chip registers busy half last = panel_with (regs_of chip registers) (memory_of chip) dots busy half last

abbrev pub panel : Registers → ℕ → Half → ℕ → Panel
panel registers busy half last = panel_on 31 registers busy half last

-- what waits: a half that was held, and one that was ignored, with its RS and R/W
abbrev pub held : ℕ → ℕ → ℕ → Half
held rs rw nibble = Waiting (bit rs) (bit rw) nibble

abbrev pub missed : ℕ → ℕ → Half
missed rs rw = Ignored (bit rs) (bit rw)

-- the fresh registers and memories
abbrev pub blank : List ℕ
blank = replicate 32 0x20

abbrev pub afresh_of : ℕ → ℕ → ℕ → Panel
afresh_of chip busy last = panel_with (regs_of chip (doubted (regs (shows 0) 0 1 0 0 0 0 8 0))) blank (replicate 32 0) busy Empty last

abbrev pub afresh : ℕ → ℕ → Panel
afresh busy last = afresh_of 31 busy last
