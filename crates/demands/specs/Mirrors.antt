-- A mirror, whatever it does; and ours, which is the table of answers.
use Rattle.std.specs.Prelude.{ℕ, ◌≡◌, List}
use Rattle.mirror.specs.Table.{record_of}
use Rattle.mirror.specs.Words.{holding}
use Rattle.mirror.specs.declared.answer.Answer.{Answer}
use Rattle.mirror.specs.declared.answer.Answer.TheVariants.{Taken, Doubtful, Held, Status, Ignored, Torn, Back, Bad, Nothing, Cut, Unsound}
use Rattle.mirror.specs.declared.half.Half.TheVariants.{Empty}
use Rattle.mirror.specs.declared.panel.Panel.{Panel}
use Rattle.mirror.specs.declared.record.Recorded.{Recorded}
use Rattle.striking.specs.Machine.{stays, goes, waits, keeps, strikes, leaves, Sort, sorted, Out, Machine}

-- what a record is told: its answer and its bus byte
pub record Response : Type 0 where
  pub answer : Answer
  pub byte : ℕ

-- a mirror: the panel after a record, given by its own bytes, and what it is told
abbrev pub Mirror : Type 0
Mirror = Panel → List ℕ → Out Panel Response

abbrev pub out_of : Recorded → Out Panel Response
out_of r = record { state = r.panel; answer = record { answer = r.answer; byte = r.byte } }

-- ours: the record that the table's row describes
abbrev pub ours : Mirror
ours p bytes = out_of (record_of p bytes)

-- what striking does by an answer: taken stays, and its first half with it, and so does doubtful, which counts as taken; held waits; back and bad go, and a half that waits goes on
-- waiting; the rest go, and the first half with them. No record of a log is answered cut or unsound
abbrev pub sort_for : Answer → Sort
sort_for Taken = sorted stays keeps
sort_for Doubtful = sorted stays keeps
sort_for Held = sorted waits leaves
sort_for Status = sorted goes strikes
sort_for Ignored = sorted goes strikes
sort_for Torn = sorted goes strikes
sort_for Back = sorted goes leaves
sort_for Bad = sorted goes leaves
sort_for Nothing = sorted goes strikes
sort_for Cut = sorted goes leaves
sort_for Unsound = sorted goes leaves

-- all of a panel but its last time and its waiting half: the sheet, the busy end, and whatever else there is
abbrev pub settled_panel : Panel → Panel
settled_panel p = holding 0 Empty p

-- a mirror as a machine that reads the records' bytes
abbrev pub machine_of : Mirror → Machine Panel (List ℕ) Response
machine_of m = record { step = m; sort = λ bytes r. sort_for r.answer; bare = settled_panel; Idle = λ p. p.half ≡ Empty }
