-- What the engine's state stands for: with the two memories it is a panel.
use Rattle.std.specs.Prelude.{ℕ, ◌+◌, ◌*◌, ◌/◌, ◌%◌, ◌≡◌, Bool, List}
use Rattle.chip.specs.Sheet.{sheet_of}
use Rattle.chip.specs.declared.registers.Registers.{Registers}
use Rattle.mirror.specs.engine.Record.{recorded}
use Rattle.mirror.specs.Words.{status_of}
use Rattle.mirror.specs.declared.answer.Answer.{Answer}
use Rattle.mirror.specs.declared.answer.Answer.TheVariants as say
use Rattle.mirror.specs.declared.answer.Verdict.{Verdict}
use Rattle.mirror.specs.declared.half.Half.{Half}
use Rattle.mirror.specs.declared.half.Half.TheVariants.{Empty, Waiting}
use Rattle.mirror.specs.declared.live.Live.{Live}
use Rattle.mirror.specs.declared.panel.Panel.{Panel}
use Rattle.mirror.specs.declared.record.Recorded.{Recorded}

-- a panel without its memories
abbrev pub live_of : Panel → Live
live_of p = record { registers = p.sheet.registers; busy = p.busy; half = p.half; times = p.times; last = p.last }

-- the panel of a state and its memories
abbrev pub panel_of : Live → List ℕ → List ℕ → Panel
panel_of k d p = record { sheet = sheet_of k.registers d p; busy = k.busy; half = k.half; times = k.times; last = k.last }

-- an answer, with the byte on the bus
abbrev pub verdict : Answer → ℕ → Verdict
verdict answer byte = record { answer = answer; byte = byte }

-- the panel of a state with the answer to it, and the bytes of the record, which a transfer has 14 of
abbrev pub recorded_of : Live → List ℕ → List ℕ → Verdict → ℕ → Recorded
recorded_of k d p v used = recorded (panel_of k d p) v.answer v.byte used

abbrev pub settled_of : Live → List ℕ → List ℕ → Verdict → Recorded
settled_of k d p v = recorded_of k d p v 14

-- the last time set, and the half that then waits
abbrev pub held : ℕ → Half → Live → Live
held time half k = record { registers = k.registers; busy = k.busy; half = half; times = k.times; last = time }

-- carried out: no half waits, and the chip is busy for a span
abbrev pub acted : Registers → ℕ → ℕ → Live → Live
acted registers time span k = record { registers = registers; busy = time + span; half = Empty; times = k.times; last = time }

-- the low half of a byte read waits
pub record Offers (time : ℕ) (rs reads : Bool) (byte : ℕ) (k k' : Live) (v : Verdict) : Type 0 where
  pub state : k' ≡ held time (Waiting rs reads (byte % 16)) k
  pub said : v ≡ verdict say.Held (byte / 16 * 16)

-- the byte of a status read, whatever the memories hold
abbrev pub Shows : ℕ → Live → ℕ → Type 0
Shows time k r = (d p : List ℕ) → r ≡ status_of time (panel_of k d p)
