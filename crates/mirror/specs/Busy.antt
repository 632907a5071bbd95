-- Ignored exactly when busy (document 01, "Busy", "Halves"): the statement, over a log and its answers.
-- A write or data read, whole or as two matching halves, is ignored exactly when the chip was busy as it began.
use Rattle.std.specs.Prelude.{ℕ, ◌+◌, ◌*◌, ◌/◌, ◌≡◌, Bool, true, false, not, ◌&&◌, ◌||◌, List, [], ◌∷◌, ltb, eqb}
use Rattle.std.specs.Bool.{beq}
use Rattle.laws.specs.Pick.{pick}
use Rattle.framing.specs.Frame.{time_of, data_of, rs_of, rw_of, is_transfer, is_reset, cut_at, bad_at}
use Rattle.framing.specs.Frames.{frames}
use Rattle.chip.specs.Instruction.{is_set}
use Rattle.mirror.specs.Answer.{carried_out}
use Rattle.mirror.specs.Panel.{fresh_panel}
use Rattle.mirror.specs.Table.{is_status}
use Rattle.mirror.specs.Answers.{answer_to, panel_after, clocked, Typed}
use Rattle.mirror.specs.declared.panel.Panel.{Panel}

-- a record's bytes, the number that it is answered with, and the busy end and last time of the panel before it
pub record Noted : Type 0 where
  pub bytes : List ℕ
  pub number : ℕ
  pub until : ℕ
  pub last : ℕ

abbrev pub noted_as : Panel → List ℕ → Noted
noted_as p log = record { bytes = log; number = answer_to p log; until = p.busy; last = p.last }

-- records that follow each other
abbrev pub noted_from : Panel → List (List ℕ) → List Noted
noted_from p [] = []
noted_from p (f ∷ fs) = noted_as p f ∷ noted_from (panel_after p f) fs

-- the first half that is open, if any
pub data Open : Type 0 where
  none : Open
  first : Noted → Open

-- the transfer that an entry began with: the first half that is open, or itself
abbrev pub begun_by : Open → Noted → Noted
begun_by none e = e
begun_by (first f) e = f

-- the byte of a write: whole, or joined of the two halves
abbrev pub byte_by : Open → Noted → ℕ
byte_by none e = data_of e.bytes
byte_by (first f) e = data_of f.bytes / 16 * 16 + data_of e.bytes / 16

-- Function Set, 20h to 3Fh: bit 4 gives width 8 if 1
abbrev pub width_by : ℕ → Bool → Bool
width_by byte eight = pick (ltb byte 0x20) eight (pick (ltb byte 0x40) (is_set 16 byte) eight)

-- the width afterwards: a taken reset gives width 8, a taken instruction what its byte says
abbrev pub width_after : Bool → Open → Noted → Bool
width_after eight o e =
    pick (not (carried_out e.number)) eight
    (pick (is_reset e.bytes) true
    (pick (rs_of e.bytes || rw_of e.bytes) eight (width_by (byte_by o e) eight)))

-- an entry that is a first half: held or ignored at width 4, where none is open
abbrev pub opens : Bool → Open → Noted → Bool
opens eight none e = (eqb e.number 1 || eqb e.number 3) && not eight
opens eight (first f) e = false

-- which first half is open afterwards: bad and back records may stand between the halves, every other ends the pair
abbrev pub open_after : Bool → Open → Noted → Open
open_after eight o e = pick (not (clocked e.number)) o (pick (opens eight o e) (first e) none)

-- busy: a time below the busy end
abbrev pub was_busy : Noted → Bool
was_busy e = ltb (time_of e.bytes) e.until

-- answered 3 exactly when the chip was busy: the entry, and the first half that it began with
pub record Decided (begun e : Noted) : Type 0 where
  pub own : eqb e.number 3 ≡ was_busy begun
  pub began : eqb begun.number 3 ≡ was_busy begun

-- whole, or matching the first half that is open in RS and R/W
abbrev pub matches : Open → Noted → Bool
matches none e = true
matches (first f) e = beq (rs_of f.bytes) (rs_of e.bytes) && beq (rw_of f.bytes) (rw_of e.bytes)

-- a usable write or data read, whatever it is answered: a good record, in time, no status read, whole or matching
abbrev pub is_usable : Open → Noted → Bool
is_usable o e =
    not (cut_at e.bytes) && not (bad_at e.bytes) && is_transfer e.bytes && not (ltb (time_of e.bytes) e.last) && not (is_status e.bytes)
    && matches o e

-- so for every such entry, read from a width and an open first half on
abbrev pub AllDecided : Bool → Open → List Noted → Type 0
AllDecided eight o [] = Unit {0}
AllDecided eight o (e ∷ es) =
    (is_usable o e ≡ true → Decided (begun_by o e) e) × AllDecided (width_after eight o e) (open_after eight o e) es

-- and so for every log from a fresh panel of a known chip, at width 8 with no half open
abbrev pub IgnoredExactlyWhenBusy : Type 0
IgnoredExactlyWhenBusy =
    (chip reset long short : ℕ) (log : List ℕ) → Typed chip reset long short log →
    AllDecided true none (noted_from (fresh_panel chip reset long short) (frames log))
