-- The streaming form: a log in parts of any size (the same run, read part by part).
use Rattle.std.specs.Prelude.{ℕ, Bool, true, false, not, ◌||◌, List, [], ◌++◌, length, replicate, ltb, Option, Some, None, is_some, unwrap_or}
use Rattle.laws.specs.Pick.{pick}
use Rattle.framing.specs.Frame.{frame_of, cut_at, wants_more}
use Rattle.framing.specs.Frames.{frames, tail, records_of}
use Rattle.framing.specs.Flaw.{flaw_of}
use Rattle.framing.specs.Carry.{carried_of, carry_of, wanting_of, more, filled}
use Rattle.chip.specs.Sizes.{one_line}
use Rattle.mirror.specs.Answer.{count_places}
use Rattle.mirror.specs.Panel.{sound_panel, fresh_panel}
use Rattle.mirror.specs.Table.{row_for}
use Rattle.mirror.specs.Run.{capped, raised, started, counted, onward}
use Rattle.mirror.specs.declared.panel.Panel.{Panel}
use Rattle.mirror.specs.declared.totals.Totals.{Totals}
use Rattle.mirror.specs.declared.stream.Stream.{Stream}
use Rattle.mirror.specs.declared.stream.Run.{Run}
use Rattle.mirror.specs.declared.stream.Next.{Next}
use Rattle.mirror.specs.declared.answer.Verdict.{Verdict}
use Rattle.mirror.specs.declared.stream.Reply.{Reply}
use Rattle.mirror.specs.declared.stream.Front.{Front}
use Rattle.mirror.specs.declared.stream.Reply.TheVariants.{Answered, More, Cut, Refused}

-- what a stream answers to a call for one record
abbrev pub StreamReply : Type 0
StreamReply = Reply Verdict

abbrev pub StreamNext : Type 0
StreamNext = Next Stream Verdict

-- what a log read with an unsound panel is counted with: only its number of records is shown
abbrev pub stand_in : Panel
stand_in = fresh_panel one_line 0 0 0

-- nothing is read yet; an unsound panel is kept as it was given
abbrev pub start_as : Bool → Panel → Stream
start_as sound p =
    record { totals = started (pick sound p stand_in); carry = carry_of []; over = false; refused = pick sound None (Some p) }

abbrev pub start_of : Panel → Stream
start_of p = start_as (sound_panel p) p

-- whether the panel that was handed in was refused
abbrev pub is_refused : Stream → Bool
is_refused st = is_some st.refused

-- the panel so far; the one that was handed in, where it was refused
abbrev pub panel_in : Stream → Panel
panel_in st = unwrap_or st.refused st.totals.panel

-- the number of the record that comes next, counted from 1
abbrev pub number_in : Stream → ℕ
number_in st = raised st.totals.records

-- the bytes that wait for more
abbrev pub waiting_bytes : Stream → List ℕ
waiting_bytes st = wanting_of (carried_of st.carry)

-- the record that these and a part make whole, and what is wrong with it where it is bad
abbrev pub front_of : Stream → List ℕ → Front
front_of st part =
    let v = filled (waiting_bytes st) part in
    record { frame = frame_of v; flaw = flaw_of v }

-- a stream with these totals and this unread tail: kept where it wants more, and otherwise a cut, which is final
abbrev pub rested_of : Stream → Totals → List ℕ → Stream
rested_of st t rest =
    record { totals = t; carry = carry_of (wanting_of rest); over = not (wants_more rest); refused = st.refused }

-- a part fed: the records that are then whole are answered, one after another
unfoldable pub feed_of : Stream → List ℕ → Stream
feed_of st part =
    let s = waiting_bytes st ++ part in
    pick st.over st (rested_of st (onward st.totals (frames s)) (tail s))

-- the next record alone, out of the bytes that wait and no more of the part than it needs; 10 comes before 8, and both are final
unfoldable pub next_of : Stream → List ℕ → StreamNext
next_of st part =
    let v = filled (waiting_bytes st) part in
    let n = length (more (waiting_bytes st) part) in
    let r = row_for st.totals.panel v in
    pick (is_refused st) (record { after = st; taken = 0; reply = Refused })
    (pick st.over (record { after = st; taken = 0; reply = Cut })
    (pick (cut_at v) (record { after = rested_of st st.totals v; taken = n; reply = pick (wants_more v) More Cut })
    (record { after = rested_of st (counted st.totals r) []; taken = n; reply = Answered (record { answer = r.answer; byte = r.byte }) })))

-- nothing more is read: the panel was refused, or a cut was met
abbrev pub ended_of : Stream → Bool
ended_of st = is_refused st || st.over

-- the end: bytes that still wait are a cut
abbrev pub cut_of : Stream → Bool
cut_of st = pick st.over true (ltb 0 (length (carried_of st.carry)))

-- a run refused with 10 has all counts 0 and is not cut
abbrev pub end_as : Option Panel → Stream → Run
end_as (Some given) st =
    record { panel = given; counts = replicate count_places 0; records = st.totals.records; cut = false; refused = true }
end_as None st =
    record { panel = st.totals.panel; counts = st.totals.counts; records = st.totals.records; cut = cut_of st; refused = false }

abbrev pub end_of : Stream → Run
end_of st = end_as st.refused st

-- a run: the records one after another from the panel; cut where something is left. Of a refused one only the records are read off
abbrev pub run_as : Bool → Panel → List ℕ → Run
run_as sound p log =
    let t = onward (started p) (frames log) in
    pick sound
    (record { panel = t.panel; counts = t.counts; records = t.records; cut = ltb 0 (length (tail log)); refused = false })
    (record { panel = p; counts = replicate count_places 0; records = capped (records_of log); cut = false; refused = true })

unfoldable pub run_of : Panel → List ℕ → Run
run_of p log = run_as (sound_panel p) p log
