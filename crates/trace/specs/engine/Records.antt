-- The records one by one, as `trace records` takes them.
use Rattle.std.specs.Prelude.{ℕ, false, not, List, replicate, ◌==◌}
use Rattle.mirror.specs.Answer.{number_of, count_places}
use Rattle.mirror.specs.Table.{record_of}
use Rattle.mirror.specs.Run.{raised, tallied}
use Rattle.mirror.specs.declared.panel.Panel.{Panel}
use Rattle.mirror.specs.declared.record.Recorded.{Recorded}
use Rattle.mirror.specs.declared.stream.Run.{Run}

-- before the first record
abbrev pub run_start : Panel → Run
run_start p = record { panel = p; counts = replicate count_places 0; records = 0; cut = false; refused = false }

-- after a record: the panel that it left, and one more of its answer
abbrev pub run_after : Run → Recorded → Run
run_after t r = record { panel = r.panel; counts = tallied t.counts r.answer; records = raised t.records; cut = t.cut; refused = t.refused }

-- after bytes that hold no record: the answer to them ends the run, cut where it is not 10
abbrev pub run_over : Run → List ℕ → Run
run_over t tail =
    let unsound = number_of (record_of t.panel tail).answer == 10 in
    record { panel = t.panel; counts = t.counts; records = t.records; cut = not unsound; refused = unsound }
