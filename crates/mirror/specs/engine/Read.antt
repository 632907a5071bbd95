-- A stream that is being read, record by record: what it stands for, with the memories and the counts that are lent beside it.
use Rattle.std.specs.Prelude.{ℕ, ◌≡◌, ◌≤◌, Bool, List, length, eqb}
use Rattle.laws.specs.Pick.{pick}
use Rattle.framing.specs.Frame.{frame_of}
use Rattle.mirror.specs.Run.{counted}
use Rattle.mirror.specs.Panel.{sound_panel}
use Rattle.mirror.specs.Stream.{start_of, rested_of}
use Rattle.mirror.specs.engine.Live.{live_of, panel_of, recorded_of, verdict}
use Rattle.mirror.specs.engine.Record.{answered}
use Rattle.mirror.specs.declared.answer.Answer.{Answer}
use Rattle.mirror.specs.declared.answer.Answer.TheVariants as say
use Rattle.mirror.specs.declared.half.Half.{Half}
use Rattle.mirror.specs.declared.panel.Panel.{Panel}
use Rattle.mirror.specs.declared.reading.Reading.{Reading}
use Rattle.mirror.specs.declared.record.Recorded.{Recorded}
use Rattle.mirror.specs.declared.stream.Stream.{Stream}
use Rattle.mirror.specs.declared.totals.Totals.{Totals}

-- its panel, and its totals
abbrev pub panel_read : Reading → List ℕ → List ℕ → Panel
panel_read o d p = panel_of o.live d p

abbrev pub totals_read : Reading → List ℕ → List ℕ → List ℕ → Totals
totals_read o d p counts = record { panel = panel_read o d p; counts = counts; records = o.records }

-- what it says of the last record, how many bytes it had and how it was answered, and of the panel, the last time seen, the half that waits
-- and the width
abbrev pub used_read : Reading → ℕ
used_read o = o.outcome.used

abbrev pub answer_read : Reading → Answer
answer_read o = o.outcome.verdict.answer

abbrev pub last_read : Reading → ℕ
last_read o = o.live.last

abbrev pub half_read : Reading → Half
half_read o = o.live.half

abbrev pub eight_read : Reading → Bool
eight_read o = o.live.registers.eight

-- at the start it stands for the panel, after so many records, and none was read
abbrev pub reading_of : Panel → ℕ → Reading
reading_of p records = record { live = live_of p; outcome = record { verdict = verdict say.Cut 0; used = 0 }; records = records }

-- it stands for the panel, with whatever counts
abbrev pub Begins : Panel → ℕ → Reading → Type 0
Begins p records o =
    (counts : List ℕ) → totals_read o p.sheet.display p.sheet.pattern counts ≡ record { panel = p; counts = counts; records = records }

-- the last record, as the table's row has it
abbrev pub recorded_read : Reading → List ℕ → List ℕ → Recorded
recorded_read o d p = recorded_of o.live d p o.outcome.verdict o.outcome.used

-- the totals after a record that was answered so: only one that is whole is counted
abbrev pub stepped : Totals → Recorded → Totals
stepped t r = pick (eqb r.used 0) (record { panel = r.panel; counts = t.counts; records = t.records }) (counted t r)

-- one record more, at the front of a log: how it is answered, the totals then, and that its bytes are the log's
pub record Steps (o : Reading) (log d p counts : List ℕ) (r : Reading) (d' p' counts' : List ℕ) : Type 0 where
  pub answer : recorded_read r d' p' ≡ answered (frame_of log) (panel_read o d p)
  pub totals : totals_read r d' p' counts' ≡ stepped (totals_read o d p counts) (answered (frame_of log) (panel_read o d p))
  pub within : used_read r ≤ length log

-- a stream with these totals and this unread tail; a panel that is not sound is refused, whoever put it together
abbrev pub read_of : Stream → Totals → List ℕ → Stream
read_of st t rest = pick (sound_panel t.panel) (rested_of st t rest) (start_of t.panel)
