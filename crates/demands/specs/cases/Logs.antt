-- Logs to compute with: the bytes of records.
use Rattle.std.specs.Prelude.{ℕ, zero, suc, ◌%◌, ◌/◌, ◌≡◌, refl, Bool, true, false, ◌&&◌, List, [], ◌∷◌, ◌++◌, ltb}
use Rattle.std.proofs.Common.{arith, ltb-true}
use Rattle.std.proofs.lemmas.Bool.{false≢true}
use Rattle.laws.specs.Bit.{pack}
use Rattle.framing.specs.Frame.{num16, num64, cut_at, bad_at, frame_of}
use Rattle.framing.specs.Frames.{pieces_from}
use Rattle.mirror.specs.Panel.{fresh_panel}
use Rattle.mirror.specs.Answers.{ByteLog, Typed, Proper}
use Rattle.mirror.specs.laws.TypedLaws.{typed_proper}
use Rattle.mirror.specs.Table.{row_for, record_of}
use Rattle.mirror.specs.Run.{tallied, onward}
use Rattle.mirror.specs.Stream.{run_of}
use Rattle.mirror.specs.declared.panel.Panel.{Panel}

-- what computes when a log is answered
unfoldable pub answering : ℕ
unfolding num16 num64 cut_at bad_at frame_of pieces_from row_for record_of tallied onward run_of pack
answering = 0

-- a time below 65,536
abbrev pub time_bytes : ℕ → List ℕ
time_bytes t = t % 256 ∷ t / 256 ∷ 0 ∷ 0 ∷ 0 ∷ 0 ∷ 0 ∷ 0 ∷ []

-- a transfer with its control, at a time
abbrev pub transfer_at : ℕ → ℕ → ℕ → List ℕ
transfer_at control t bus = (12 ∷ 0 ∷ 1 ∷ 0 ∷ []) ++ time_bytes t ++ (control ∷ bus ∷ [])

-- RS 0, R/W 0; RS 1, R/W 0; RS 0, R/W 1; RS 1, R/W 1
abbrev pub instruct_at : ℕ → ℕ → List ℕ
instruct_at t bus = transfer_at 0 t bus

abbrev pub write_at : ℕ → ℕ → List ℕ
write_at t bus = transfer_at 1 t bus

abbrev pub status_at : ℕ → List ℕ
status_at t = transfer_at 2 t 0

abbrev pub read_at : ℕ → List ℕ
read_at t = transfer_at 3 t 0

abbrev pub reset_at : ℕ → List ℕ
reset_at t = (10 ∷ 0 ∷ 2 ∷ 0 ∷ []) ++ time_bytes t

-- a record of an unknown kind
abbrev pub bad_record : List ℕ
bad_record = 2 ∷ 0 ∷ 3 ∷ 0 ∷ []

-- a fresh panel of a chip with the times of the cases; of the chip with one line
abbrev pub case_panel_of : ℕ → Panel
case_panel_of chip = fresh_panel chip 10_000 1_640 40

abbrev pub case_panel : Panel
case_panel = case_panel_of 31

and_left : (a b : Bool) → (a && b) ≡ true → a ≡ true
and_left true b e = refl
and_left false b e = absurd (false≢true e)

and_right : (a b : Bool) → (a && b) ≡ true → b ≡ true
and_right true b e = e
and_right false b e = absurd (false≢true e)

-- that a log is made of bytes, and its times below 65,536, computed
abbrev pub all_bytes : List ℕ → Bool
all_bytes [] = true
all_bytes (b ∷ s) = ltb b 256 && all_bytes s

pub bytes : (s : List ℕ) → all_bytes s ≡ true → ByteLog s
bytes [] e i = omega arith
bytes (b ∷ s) e zero = ltb-true b 256 (and_left (ltb b 256) (all_bytes s) e)
bytes (b ∷ s) e (suc i) = bytes s (and_right (ltb b 256) (all_bytes s) e) i

pub typed : (log : List ℕ) → all_bytes log ≡ true → Typed 31 10_000 1_640 40 log
typed log e = record { known = refl; reset_fits = omega arith; long_fits = omega arith; short_fits = omega arith; bytes = bytes log e }

pub proper : (log : List ℕ) → all_bytes log ≡ true → Proper case_panel log
proper log e = typed_proper (typed log e)
