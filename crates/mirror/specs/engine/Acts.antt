-- How the engine acts on a transfer: on a byte that completes first, and then on the rest.
use Rattle.std.specs.Prelude.{ℕ, ◌+◌, ◌*◌, ◌/◌, ◌%◌, ◌<◌, ◌≡◌, Bool, List, leb, Option, Some, None}
use Rattle.std.specs.Bool.{beq}
use Rattle.laws.specs.Pick.{pick}
use Rattle.framing.specs.declared.frame.Frame.{Frame}
use Rattle.framing.specs.declared.frame.Frame.TheVariants as frame
use Rattle.chip.specs.Step.{passed}
use Rattle.mirror.specs.Panel.{time_end}
use Rattle.mirror.specs.Words.{done}
use Rattle.mirror.specs.engine.Way.{Way, finish_of, first_of, unless_torn}
use Rattle.mirror.specs.engine.Record.{recorded, read_as, went}
use Rattle.mirror.specs.engine.Live.{panel_of, settled_of}
use Rattle.mirror.specs.declared.answer.Verdict.{Verdict}
use Rattle.mirror.specs.declared.half.Half.{Half}
use Rattle.mirror.specs.declared.half.Half.TheVariants.{Empty, Ignored, Waiting}
use Rattle.mirror.specs.declared.live.Live.{Live}

-- the time of a record that is neither cut nor bad is one that a panel can have
abbrev pub IsInTime : Frame → Type 0
IsInTime frame.Cut = Unit {0}
IsInTime (frame.Bad size) = Unit {0}
IsInTime (frame.Transfer time rs reads bus) = time < time_end
IsInTime (frame.Reset time) = time < time_end

-- the byte of a write that is the second half of a pair that counts
abbrev pub ended_byte : Half → Bool → ℕ → Option ℕ
ended_byte Empty rs bus = None
ended_byte (Ignored r w) rs bus = None
ended_byte (Waiting r w nibble) rs bus = pick (beq r rs) (pick w None (Some (nibble % 16 * 16 + bus / 16))) None

-- the byte that a transfer completes, where the chip takes one
abbrev pub completed_of : Bool → Half → Bool → Bool → Bool → ℕ → Option ℕ
completed_of eight half free rs reads bus =
    pick reads None (pick eight (pick free (Some bus) None) (ended_byte half rs bus))

-- the way of a transfer at width 8 that completes none
abbrev pub rest_of : Bool → Bool → Bool → Way
rest_of free rs reads = pick reads (pick rs (pick free Way.Read Way.Ignored) Way.Status) Way.Ignored

-- the way of a second half that tears no pair and completes none, by the nibble that waits
abbrev pub end_of : Option ℕ → Bool → Way
end_of None rs = Way.Ignored
end_of (Some nibble) rs = pick rs Way.ReadEnd Way.StatusEnd

-- the half that waits for it
abbrev pub half_as : Bool → Bool → Option ℕ → Half
half_as r w None = Ignored r w
half_as r w (Some nibble) = Waiting r w nibble

-- what the engine's steps promise: the state, the memories and the answer that a way comes to
abbrev pub Finishes : ℕ → Bool → ℕ → Live → List ℕ → List ℕ → Live → List ℕ → List ℕ → Verdict → Type 0
Finishes time rs byte k d p k' d' p' v =
    (reads : Bool) (bus : ℕ) → settled_of k' d' p' v ≡ went (finish_of rs byte) time rs reads bus byte (panel_of k d p)

abbrev pub Reads : ℕ → ℕ → Live → Live → Verdict → Type 0
Reads time byte k k' v =
    (d p : List ℕ) →
    let q = panel_of k d p in
    settled_of k' d p v ≡ recorded (done time (passed q.sheet) q.times.short q) (read_as k.registers.good) (pick k.registers.good byte 0) 14

abbrev pub Rests : ℕ → Bool → Bool → Live → List ℕ → List ℕ → Live → Verdict → Type 0
Rests time rs reads k d p k' v =
    (bus byte : ℕ) → settled_of k' d p v ≡ went (rest_of (leb k.busy time) rs reads) time rs reads bus byte (panel_of k d p)

abbrev pub Begins : ℕ → Bool → Bool → ℕ → Live → List ℕ → List ℕ → Live → Verdict → Type 0
Begins time rs reads bus k d p k' v =
    (byte : ℕ) → settled_of k' d p v ≡ went (first_of (leb k.busy time) rs reads) time rs reads bus byte (panel_of k d p)

abbrev pub Ends : ℕ → Bool → Bool → Bool → Bool → Option ℕ → Live → Live → Verdict → Type 0
Ends time rs reads r w nibble k k' v =
    k.half ≡ half_as r w nibble → (d p : List ℕ) (bus byte : ℕ) →
    settled_of k' d p v ≡ went (unless_torn r w rs reads (end_of nibble rs)) time rs reads bus byte (panel_of k d p)
