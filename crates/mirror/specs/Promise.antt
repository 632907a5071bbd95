-- What `record`, `next` and `run` promise: an equation, and beside it this paper's numbers and values of what they answer.
use Rattle.std.specs.Prelude.{ℕ, ◌≡◌, Bool, true, false, not, List, ltb, length, replicate, Option, Some, None}
use Rattle.std.proofs.Math.Option as maybe
use Rattle.std.proofs.Math.Option.{none, some}
use Rattle.laws.specs.Pick.{pick}
use Rattle.framing.specs.Frame.{wants_more}
use Rattle.framing.specs.Frames.{frames, tail}
use Rattle.framing.specs.Carry.{filled}
use Rattle.mirror.specs.Answer.{number_of, count_places, Paper, paper}
use Rattle.mirror.specs.Panel.{sound_panel}
use Rattle.mirror.specs.Table.{number_for, byte_for, Tabled, record_of}
use Rattle.mirror.specs.Run.{started, onward}
use Rattle.mirror.specs.Stream.{StreamReply, StreamNext, is_refused, waiting_bytes, next_of, run_of}
use Rattle.mirror.specs.declared.answer.Answer.TheVariants as say
use Rattle.mirror.specs.declared.answer.Refusal.{Refusal}
use Rattle.mirror.specs.declared.answer.Refusal.TheVariants as refusal
use Rattle.mirror.specs.declared.panel.Panel.{Panel}
use Rattle.mirror.specs.declared.record.Recorded.{Recorded}
use Rattle.mirror.specs.declared.stream.Stream.{Stream}
use Rattle.mirror.specs.declared.stream.Run.{Run}
use Rattle.mirror.specs.declared.stream.Reply.{Reply}
use Rattle.mirror.specs.declared.stream.Reply.TheVariants.{Answered, More, Cut, Refused}

-- ONE RECORD: the row of the table
pub record Records (p : Panel) (log : List ℕ) (r : Recorded) : Type 0 where
  pub is : r ≡ record_of p log
  pub tabled : Tabled p log r

-- this paper's number and bus byte of a reply; none where more bytes are wanted
abbrev pub spoken : StreamReply → maybe.Option Paper
spoken (Answered a) = some (paper a.answer a.byte)
spoken More = none
spoken Cut = some (paper say.Cut 0)
spoken Refused = some (paper say.Unsound 0)

-- what ends a reading, of this stream or of another that answers as it does; none where it goes on
abbrev pub end_refusal : {T : Type 0} → Reply T → Option Refusal
end_refusal (Answered x) = None
end_refusal More = None
end_refusal Cut = Some refusal.Cut
end_refusal Refused = Some refusal.Unsound

-- its number, 8 or 10; 0 where it goes on
abbrev pub end_number : {T : Type 0} → Reply T → ℕ
end_number (Answered x) = 0
end_number More = 0
end_number Cut = number_of say.Cut
end_number Refused = number_of say.Unsound

-- what is to be spoken: 10 of a refused stream, 8 after a cut; otherwise the table's number and byte of the record that is whole
abbrev pub spoken_for : Stream → List ℕ → maybe.Option Paper
spoken_for st part =
    let p = st.totals.panel in
    let v = filled (waiting_bytes st) part in
    pick (is_refused st) (some (record { number = 10; byte = 0 }))
    (pick st.over (some (record { number = 8; byte = 0 }))
    (pick (wants_more v) none (some (record { number = number_for p v; byte = byte_for (number_for p v) p v }))))

-- THE NEXT RECORD of a stream
pub record Replies (st : Stream) (part : List ℕ) (r : StreamNext) : Type 0 where
  pub is : r ≡ next_of st part
  pub told : sound_panel st.totals.panel ≡ true → spoken r.reply ≡ spoken_for st part

-- this paper's number of a run, none where it was read to its end; its nine counts; whether it was cut
pub record Summed : Type 0 where
  pub number : maybe.Option ℕ
  pub counts : List ℕ
  pub cut : Bool

abbrev pub summed : Run → Summed
summed r = record { number = pick r.refused (some (number_of say.Unsound)) (pick r.cut (some (number_of say.Cut)) none); counts = r.counts; cut = r.cut }

-- what ended it, none where it was read to its end
abbrev pub run_refusal : Run → Option Refusal
run_refusal r = pick r.refused (Some refusal.Unsound) (pick r.cut (Some refusal.Cut) None)

-- a run refused with 10 has all counts 0 and is not cut; another is cut where something is left
abbrev pub summed_for : Panel → List ℕ → Summed
summed_for p log =
    let cut = ltb 0 (length (tail log)) in
    pick (not (sound_panel p)) (record { number = some 10; counts = replicate count_places 0; cut = false })
    (record { number = pick cut (some 8) none; counts = (onward (started p) (frames log)).counts; cut = cut })

-- A RUN
pub record Runs (p : Panel) (log : List ℕ) (r : Run) : Type 0 where
  pub is : r ≡ run_of p log
  pub told : summed r ≡ summed_for p log
