-- A run over a log (document 01, "Counts"): one record after another, until the log is used up or cut.
use Rattle.std.specs.Prelude.{ℕ, ◌+◌, ◌-◌, ◌^◌, List, [], ◌∷◌, get_or, set, replicate, ltb}
use Rattle.laws.specs.Pick.{pick}
use Rattle.mirror.specs.Answer.{number_of, count_places, place_of}
use Rattle.mirror.specs.Table.{row_for}
use Rattle.mirror.specs.declared.answer.Answer.{Answer}
use Rattle.mirror.specs.declared.panel.Panel.{Panel}
use Rattle.mirror.specs.declared.record.Recorded.{Recorded}
use Rattle.mirror.specs.declared.totals.Totals.{Totals}

-- a count's greatest number, at which it stays
abbrev pub most_count : ℕ
most_count = 2 ^ 64 - 1

-- a number as far as a count goes
abbrev pub capped : ℕ → ℕ
capped n = pick (ltb n most_count) n most_count

-- one more
abbrev pub raised : ℕ → ℕ
raised n = pick (ltb n most_count) (n + 1) n

-- the count of an answer, at its place, raised
unfoldable pub tallied : List ℕ → Answer → List ℕ
tallied counts answer =
    let n = place_of (number_of answer) in
    pick (ltb n count_places) (set counts n (raised (get_or counts n 0))) counts

-- nothing is read yet
abbrev pub started : Panel → Totals
started p = record { panel = p; counts = replicate count_places 0; records = 0 }

-- the totals after a record that was answered so
abbrev pub counted : Totals → Recorded → Totals
counted t r = record { panel = r.panel; counts = tallied t.counts r.answer; records = raised t.records }

-- one record more, given by its own bytes
abbrev pub advanced : Totals → List ℕ → Totals
advanced t bytes = counted t (row_for t.panel bytes)

-- records one after another
unfoldable pub onward : Totals → List (List ℕ) → Totals
onward t [] = t
onward t (bytes ∷ more) = onward (advanced t bytes) more
