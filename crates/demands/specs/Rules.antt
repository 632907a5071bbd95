-- Rules that every mirror can be held against: demand 2's busy rule and steps, and the counts.
use Rattle.std.specs.Prelude.{ℕ, ◌+◌, ◌^◌, ◌≤◌, ◌<◌, ◌≡◌, Bool, true, false, not, ◌&&◌, ◌||◌, List, [], ◌∷◌, length, get_or, eqb}
use Rattle.std.specs.Bool.{beq}
use Rattle.laws.specs.Pick.{pick}
use Rattle.framing.specs.Frame.{frame_of}
use Rattle.framing.specs.Frames.{records_of}
use Rattle.framing.specs.declared.frame.Frame.TheVariants.{Transfer}
use Rattle.mirror.specs.Answer.{number_of, count_places, place_of}
use Rattle.mirror.specs.Panel.{sound_panel}
use Rattle.mirror.specs.Words.{joined_of, free}
use Rattle.mirror.specs.Answers.{Proper}
use Rattle.mirror.specs.Run.{capped}
use Rattle.mirror.specs.declared.half.Half.{Half}
use Rattle.mirror.specs.declared.half.Half.TheVariants.{Empty, Ignored, Waiting}
use Rattle.mirror.specs.declared.panel.Panel.{Panel}
use Rattle.mirror.specs.declared.stream.Run.{Run}
use Rattle.demands.specs.Mirrors.{Mirror, ours}
use Rattle.demands.specs.Answers.{answers_by, numbers}
use Rattle.demands.specs.Replay.{Entry, carried_all, entry_of}

-- whole, or two matching halves: the half that waits, if any, has the same RS and R/W
abbrev pub matching : Half → Bool → Bool → Bool
matching Empty rs reads = true
matching (Ignored r w) rs reads = beq r rs && beq w reads
matching (Waiting r w nibble) rs reads = beq r rs && beq w reads

-- the chip was busy as the transfer began: for a second half, as its first half came
abbrev pub begun_busy : Half → Bool → Bool
begun_busy Empty free = not free
begun_busy (Ignored r w) free = true
begun_busy (Waiting r w nibble) free = false

-- DEMAND 2, THE BUSY RULE: a usable write or data read is ignored exactly when the chip was busy as it began
abbrev pub IgnoresBusy : Mirror → Type 0
IgnoresBusy m =
    (p : Panel) (bytes : List ℕ) (time : ℕ) (rs reads : Bool) (bus : ℕ) →
    sound_panel p ≡ true → frame_of bytes ≡ Transfer time rs reads bus → p.last ≤ time →
    (rs || not reads) ≡ true → matching p.half rs reads ≡ true →
    eqb (number_of (m p bytes).answer.answer) 3 ≡ begun_busy p.half (free time p)

-- a transfer is complete: whole at width 8, and at width 4 the second half of a pair
abbrev pub complete : Bool → Half → Bool
complete eight Empty = eight
complete eight (Ignored r w) = true
complete eight (Waiting r w nibble) = true

-- what a transfer has to do to the sheet: its entry where it is complete, matches and was not begun while busy, and else nothing
abbrev pub entries_at : Bool → Half → Bool → Bool → Bool → ℕ → List Entry
entries_at eight h free rs reads bus = pick (not (begun_busy h free) && complete eight h && matching h rs reads) (entry_of rs reads (joined_of eight h bus)) []

-- DEMAND 2, THE STEPS: each transfer does to the sheet what the steps say, and nothing else
abbrev pub DoesSteps : Mirror → Type 0
DoesSteps m =
    (p : Panel) (bytes : List ℕ) (time : ℕ) (rs reads : Bool) (bus : ℕ) →
    sound_panel p ≡ true → frame_of bytes ≡ Transfer time rs reads bus → p.last ≤ time →
    (m p bytes).state.sheet ≡ carried_all (entries_at p.sheet.registers.eight p.half (free time p) rs reads bus) p.sheet

-- what hands back counts: the type of a run
abbrev pub Counter : Type 0
Counter = Panel → List ℕ → Run

-- how often a number stands in a list
abbrev pub occurrences : ℕ → List ℕ → ℕ
occurrences n [] = 0
occurrences n (x ∷ rest) = pick (eqb x n) 1 0 + occurrences n rest

-- COUNTS: each of the nine counts, at its answer's place, is the number of records that were answered so, as far as a count goes
abbrev pub Counts : Counter → Type 0
Counts run =
    (p : Panel) (log : List ℕ) → Proper p log →
    (n : ℕ) → place_of n < count_places → get_or (run p log).counts (place_of n) 0 ≡ capped (occurrences n (numbers (answers_by ours p log)))

-- the nine counts together
abbrev pub total : List ℕ → ℕ
total c = get_or c 0 0 + get_or c 1 0 + get_or c 2 0 + get_or c 3 0 + get_or c 4 0 + get_or c 5 0 + get_or c 6 0 + get_or c 7 0 + get_or c 8 0

-- a log in memory has fewer than 2^64 bytes
abbrev pub InMemory : List ℕ → Type 0
InMemory log = length log < 2 ^ 64

-- COUNTS: the number of records is the one read off the lengths, of a refused run too
abbrev pub CountsRecords : Counter → Type 0
CountsRecords run = (p : Panel) (log : List ℕ) → InMemory log → (run p log).records ≡ records_of log

-- COUNTS: unless the run is refused, the nine add up to it
abbrev pub AddsUp : Counter → Type 0
AddsUp run = (p : Panel) (log : List ℕ) → sound_panel p ≡ true → InMemory log → total (run p log).counts ≡ records_of log
