-- What the crate's own functions answer while a log is read.
use Rattle.std.specs.Prelude.{ℕ, ◌-◌, List, length}
use Rattle.laws.specs.Pick.{pick}
use Rattle.framing.specs.Frames.{frames, tail}
use Rattle.mirror.specs.Run.{onward}
use Rattle.mirror.specs.Stream.{StreamNext}
use Rattle.mirror.specs.declared.totals.Totals.{Totals}
use Rattle.mirror.specs.declared.totals.Consumed.{Consumed}
use Rattle.mirror.specs.declared.stream.Stream.{Stream}
use Rattle.mirror.specs.declared.stream.Reply.TheVariants.{More, Cut}

-- the whole records at the front of a log, and how many bytes they are
abbrev pub consumed_of : Totals → List ℕ → Consumed
consumed_of t log = record { totals = onward t (frames log); at = length log - length (tail log) }

-- no record is answered: a cut was met, or more bytes are wanted
abbrev pub stopped_of : Stream → ℕ → StreamNext
stopped_of st taken = record { after = st; taken = taken; reply = pick st.over Cut More }
