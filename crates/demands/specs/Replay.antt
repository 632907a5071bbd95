-- Demand 3, first half: the entries answered taken, or doubtful, which counts as taken, carried out on the sheet's machine, end with the sheet that
-- the mirror ends with, whether the next read is good among it.
-- What is carried out is read off the log and its answers alone.
use Rattle.std.specs.Prelude.{ℕ, ◌+◌, ◌*◌, ◌%◌, ◌/◌, ◌≡◌, Bool, List, [], ◌∷◌, ◌++◌, eqb}
use Rattle.laws.specs.Pick.{pick}
use Rattle.framing.specs.Frame.{frame_of}
use Rattle.framing.specs.declared.frame.Frame.{Frame}
use Rattle.framing.specs.declared.frame.Frame.TheVariants as frame
use Rattle.chip.specs.Sheet.{fresh_sheet}
use Rattle.chip.specs.Step.{obeyed, written, passed}
use Rattle.chip.specs.declared.sheet.Sheet.{Sheet}
use Rattle.mirror.specs.Answer.{number_of, carried_out}
use Rattle.mirror.specs.Panel.{fresh_panel}
use Rattle.mirror.specs.Answers.{clocked, Typed}
use Rattle.mirror.specs.declared.answer.Answer.{Answer}
use Rattle.striking.specs.Machine.{Answered}
use Rattle.demands.specs.Mirrors.{Response, Mirror}
use Rattle.demands.specs.Answers.{answers_by, panel_by}

-- an entry for the sheet's machine, which has no clock and no half transfers
pub data Entry : Type 0 where
  instruct : (code : ℕ) → Entry
  write : (byte : ℕ) → Entry
  read reset : Entry

-- carried out by the steps; a reset gives a fresh sheet of the same chip
abbrev pub carried : Entry → Sheet → Sheet
carried (instruct code) s = obeyed code s
carried (write byte) s = written byte s
carried read s = passed s
carried reset s = fresh_sheet s.registers.chip

-- once each, in order
abbrev pub carried_all : List Entry → Sheet → Sheet
carried_all [] s = s
carried_all (e ∷ rest) s = carried_all rest (carried e s)

-- a first half that was held and is not decided yet: the data that it came with
pub data ReplayHalf : Type 0 where
  none : ReplayHalf
  held : (bus : ℕ) → ReplayHalf

-- a pair of halves is one byte, of data bits 7 to 4 of each; without a first half the data is used in full
abbrev pub joined_with : ReplayHalf → ℕ → ℕ
joined_with none bus = bus
joined_with (held high) bus = high / 16 % 16 * 16 + bus / 16

-- the entry of a transfer with its byte; a status read is none
abbrev pub entry_of : Bool → Bool → ℕ → List Entry
entry_of rs reads byte = pick reads (pick rs (read ∷ []) []) (pick rs (write byte ∷ []) (instruct byte ∷ []))

-- the entry of a record, given the first half before it
abbrev pub entry_at : ReplayHalf → Frame → List Entry
entry_at first frame.Cut = []
entry_at first (frame.Bad size) = []
entry_at first (frame.Reset time) = reset ∷ []
entry_at first (frame.Transfer time rs reads bus) = entry_of rs reads (joined_with first bus)

abbrev pub bus_of : Frame → ℕ
bus_of frame.Cut = 0
bus_of (frame.Bad size) = 0
bus_of (frame.Reset time) = 0
bus_of (frame.Transfer time rs reads bus) = bus

-- an entry is carried out where the answer says so: 0, taken, or 11, doubtful
abbrev pub entries_by : Answer → ReplayHalf → Frame → List Entry
entries_by answer first f = pick (carried_out (number_of answer)) (entry_at first f) []

-- answer 1 holds a first half; every other that sets the last time leaves none; the rest change nothing
abbrev pub first_after : Answer → ReplayHalf → Frame → ReplayHalf
first_after answer first f =
    let n = number_of answer in
    pick (eqb n 1) (held (bus_of f)) (pick (clocked n) none first)

-- the entries answered taken or doubtful, once each, in order, a pair of halves as one
abbrev pub taken_from : ReplayHalf → List (Answered (List ℕ) Response) → List Entry
taken_from first [] = []
taken_from first (a ∷ rest) =
    entries_by a.answer.answer first (frame_of a.event) ++ taken_from (first_after a.answer.answer first (frame_of a.event)) rest

abbrev pub taken_of : List (Answered (List ℕ) Response) → List Entry
taken_of answers = taken_from none answers

-- DEMAND 3, FIRST HALF, of any mirror: from a fresh panel of a known chip, for any log
abbrev pub Replays : Mirror → Type 0
Replays m =
    (chip reset long short : ℕ) (log : List ℕ) → Typed chip reset long short log →
    carried_all (taken_of (answers_by m (fresh_panel chip reset long short) log)) (fresh_sheet chip) ≡ (panel_by m (fresh_panel chip reset long short) log).sheet

-- no entry is the instruction 00h
abbrev pub Something : Entry → Type 0
Something (instruct code) = ¬ (code ≡ 0)
Something (write byte) = Unit {0}
Something read = Unit {0}
Something reset = Unit {0}

abbrev pub AllSomething : List Entry → Type 0
AllSomething [] = Unit {0}
AllSomething (e ∷ rest) = Something e × AllSomething rest
