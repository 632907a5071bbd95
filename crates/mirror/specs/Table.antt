-- The table of answers (document 01, "Answer numbers", "Busy", "Halves"; doubtful, document 02, wish 2), row by row and in the stated order.
-- It does not look at how the engine decides: `answered_sound` (TableLaws.antt) holds the one against the other.
use Rattle.std.specs.Prelude.{ℕ, ◌*◌, ◌%◌, ◌/◌, ◌≡◌, Bool, true, false, not, ◌&&◌, ◌||◌, List, ltb, leb, eqb}
use Rattle.std.specs.Bool.{beq}
use Rattle.laws.specs.Pick.{pick}
use Rattle.framing.specs.Frame.{time_of, data_of, rs_of, rw_of, is_transfer, is_reset, record_size, cut_at, bad_at}
use Rattle.chip.specs.Sheet.{fresh_sheet}
use Rattle.chip.specs.Step.{obeyed, written, passed}
use Rattle.chip.specs.declared.sheet.Sheet.{Sheet}
use Rattle.mirror.specs.Answer.{answer_of, carried_out, paper}
use Rattle.mirror.specs.Panel.{sound_panel}
use Rattle.mirror.specs.Words.{nibble_of, joined_of, free, status_of, is_good, read_byte, holding, done, high}
use Rattle.mirror.specs.declared.half.Half.{Half}
use Rattle.mirror.specs.declared.half.Half.TheVariants.{Empty, Ignored, Waiting}
use Rattle.mirror.specs.declared.panel.Panel.{Panel}
use Rattle.mirror.specs.declared.record.Recorded.{Recorded}

-- a half waits
abbrev pub waits : Half → Bool
waits Empty = false
waits (Ignored rs reads) = true
waits (Waiting rs reads nibble) = true

-- the first half of a pair: at width 4, where none waits
abbrev pub is_first : Panel → Bool
is_first p = not p.sheet.registers.eight && not (waits p.half)

-- the byte that a write comes to: whole, or joined of two halves
abbrev pub byte_of : Panel → List ℕ → ℕ
byte_of p log = joined_of p.sheet.registers.eight p.half (data_of log)

-- back: time below the last time seen
abbrev pub is_back : Panel → List ℕ → Bool
is_back p log = ltb (time_of log) p.last

-- torn: the second half differs from the first in RS or R/W
abbrev pub differs : Half → Bool → Bool → Bool
differs Empty rs reads = false
differs (Ignored r w) rs reads = not (beq r rs) || not (beq w reads)
differs (Waiting r w nibble) rs reads = not (beq r rs) || not (beq w reads)

abbrev pub tears : Panel → List ℕ → Bool
tears p log = differs p.half (rs_of log) (rw_of log)

-- a status read: RS 0, R/W 1
abbrev pub is_status : List ℕ → Bool
is_status log = rw_of log && not (rs_of log)

-- ignored: the chip was busy, as decided at the first half for the pair; a status read is never ignored
abbrev pub busy_at : Half → Bool → Bool
busy_at Empty busy = busy
busy_at (Ignored rs reads) busy = true
busy_at (Waiting rs reads nibble) busy = false

abbrev pub ignores : Panel → List ℕ → Bool
ignores p log = busy_at p.half (not (is_status log) && not (free (time_of log) p))

-- none: an instruction write of 00h, complete
abbrev pub is_none : Panel → List ℕ → Bool
is_none p log = not (is_first p) && not (rs_of log) && not (rw_of log) && eqb (byte_of p log) 0

-- doubtful: a data read that isn't good
abbrev pub is_doubtful : Panel → List ℕ → Bool
is_doubtful p log = rs_of log && rw_of log && not (is_good p)

-- the number of a transfer that is neither cut, bad nor back: 4, 3, 7, the rest; 11 is given in place of 0, last in the order
abbrev pub transfer_for : Panel → List ℕ → ℕ
transfer_for p log =
    pick (tears p log) 4
    (pick (ignores p log) 3
    (pick (is_none p log) 7
    (pick (is_first p) 1
    (pick (is_status log) 2
    (pick (is_doubtful p log) 11 0)))))

-- the number of a record whose panel is sound. Order: 8, 6, 5; then a reset is taken; then a transfer's
abbrev pub heard_for : Panel → List ℕ → ℕ
heard_for p log =
    pick (cut_at log) 8
    (pick (bad_at log) 6
    (pick (is_back p log) 5
    (pick (is_reset log) 0 (transfer_for p log))))

-- the answer's number: 10 comes first
abbrev pub number_for : Panel → List ℕ → ℕ
number_for p log = pick (not (sound_panel p)) 10 (heard_for p log)

-- what a read gives: the status, or the byte at the address, which is 0 unless the read is good
abbrev pub source_of : Panel → List ℕ → ℕ
source_of p log = pick (is_status log) (status_of (time_of log) p) (read_byte p)

-- whole at width 8; read halves stand in the high four bits, and the second was fixed at the first
abbrev pub read_of : Panel → List ℕ → ℕ
read_of p log = pick (waits p.half) (nibble_of p.half * 16) (pick (is_first p) (high (source_of p log)) (source_of p log))

-- the bus byte: the byte read for reads answered 0, 1 or 2, and 0 otherwise
abbrev pub byte_for : ℕ → Panel → List ℕ → ℕ
byte_for n p log = pick (leb n 2 && is_transfer log && rw_of log) (read_of p log) 0

-- the half that waits after 1: the high half that was written, or the low half still to be read
abbrev pub held_half : Panel → List ℕ → Half
held_half p log = Waiting (rs_of log) (rw_of log) (pick (rw_of log) (source_of p log % 16) (data_of log / 16))

-- after 3: a first half waits, marked ignored; otherwise none does
abbrev pub ignored_half : Panel → List ℕ → Half
ignored_half p log = pick (is_first p) (Ignored (rs_of log) (rw_of log)) Empty

-- what a record carried out does to the sheet: a reset, which keeps the chip, a data read, a data write, an instruction
abbrev pub sheet_for : Panel → List ℕ → Sheet
sheet_for p log =
    pick (is_reset log) (fresh_sheet p.sheet.registers.chip)
    (pick (rs_of log) (pick (rw_of log) (passed p.sheet) (written (byte_of p log) p.sheet))
    (obeyed (byte_of p log) p.sheet))

-- Clear and Return Home: instructions 01h to 03h
abbrev pub is_long : Panel → List ℕ → Bool
is_long p log = not (rs_of log) && ltb (byte_of p log) 4

-- and how long it keeps the chip busy
abbrev pub span_for : Panel → List ℕ → ℕ
span_for p log = pick (is_reset log) p.times.reset (pick (is_long p log) p.times.long p.times.short)

-- the panel afterwards: 5, 6, 8 and 10 leave it unchanged
abbrev pub panel_for : ℕ → Panel → List ℕ → Panel
panel_for n p log =
    pick (carried_out n) (done (time_of log) (sheet_for p log) (span_for p log) p)
    (pick (eqb n 1) (holding (time_of log) (held_half p log) p)
    (pick (eqb n 2) (holding (time_of log) Empty p)
    (pick (eqb n 3) (holding (time_of log) (ignored_half p log) p)
    (pick (eqb n 4) (holding (time_of log) Empty p)
    (pick (eqb n 7) (holding (time_of log) Empty p) p)))))

-- the bytes used: reading stops at a cut, and an unsound panel reads none
abbrev pub used_for : ℕ → List ℕ → ℕ
used_for n log = pick (eqb n 8 || eqb n 10) 0 (record_size log)

-- a row of the table: what a record answered with a number comes to
pub record Row (n : ℕ) (p : Panel) (log : List ℕ) (r : Recorded) : Type 0 where
  pub paper : paper r.answer r.byte ≡ record { number = n; byte = r.byte }
  pub byte : r.byte ≡ byte_for n p log
  pub panel : r.panel ≡ panel_for n p log
  pub used : r.used ≡ used_for n log

-- the table: the row of the number that the tests give
abbrev pub Tabled : Panel → List ℕ → Recorded → Type 0
Tabled p log r = Row (number_for p log) p log r

-- what that row describes
abbrev pub row_of : ℕ → Panel → List ℕ → Recorded
row_of n p log = record { panel = panel_for n p log; answer = answer_of n; byte = byte_for n p log; used = used_for n log }

-- the row without the test of the panel, which a run makes once. At width 8 it passes over a half that no sound panel has there
abbrev pub whole_at : Panel → Panel
whole_at p = record { sheet = p.sheet; busy = p.busy; half = pick p.sheet.registers.eight Empty p.half; times = p.times; last = p.last }

abbrev pub row_with : Panel → Panel → List ℕ → Recorded
row_with q p log =
    let n = heard_for q log in
    record { panel = panel_for n p log; answer = answer_of n; byte = byte_for n q log; used = used_for n log }

unfoldable pub row_for : Panel → List ℕ → Recorded
row_for p log = row_with (whole_at p) p log

-- one record at the front of a log
unfoldable pub record_of : Panel → List ℕ → Recorded
record_of p log = row_of (number_for p log) p log
