-- The busy rule at work, computed: which transfer each entry began with, and how it is answered.
use Rattle.std.specs.Prelude.{ℕ, ◌≡◌, refl, Bool, true, List, [], ◌∷◌}
use Rattle.laws.specs.Bit.{pack}
use Rattle.framing.specs.Frame.{num16, num64, cut_at, bad_at, frame_of, time_of}
use Rattle.chip.specs.Sizes.{one_line}
use Rattle.mirror.specs.Panel.{fresh_panel}
use Rattle.mirror.specs.engine.Record.{transferred}
use Rattle.mirror.specs.Table.{record_of}
use Rattle.mirror.specs.Busy.{Noted, noted_from, Open, begun_by, width_after, open_after}
use Rattle.mirror.specs.Busy.Open.{none}

-- a transfer at a time below 256
abbrev sent : ℕ → ℕ → ℕ → List ℕ
sent time control byte = 12 ∷ 0 ∷ 1 ∷ 0 ∷ time ∷ 0 ∷ 0 ∷ 0 ∷ 0 ∷ 0 ∷ 0 ∷ 0 ∷ control ∷ byte ∷ []

-- the number of each entry, and the time at which it began
abbrev numbers : List Noted → List ℕ
numbers [] = []
numbers (e ∷ es) = e.number ∷ numbers es

abbrev begun : Bool → Open → List Noted → List ℕ
begun eight o [] = []
begun eight o (e ∷ es) = time_of (begun_by o e).bytes ∷ begun (width_after eight o e) (open_after eight o e) es

-- 20h at 0; a half at 39, a record back in time, and the other half at 41; then a pair at 42 and 43
abbrev log : List (List ℕ)
log = sent 0 0 0x20 ∷ sent 39 0 0x80 ∷ sent 7 0 0x50 ∷ sent 41 0 0x50 ∷ sent 42 0 0x80 ∷ sent 43 0 0x50 ∷ []

abbrev entries : List Noted
entries = noted_from (fresh_panel one_line 10000 1640 40) log

-- both halves of the pair begun at 39 are ignored, though the chip is free by 41, and the next pair is not skewed
answers : numbers entries ≡ 0 ∷ 3 ∷ 5 ∷ 3 ∷ 1 ∷ 0 ∷ []
unfolding num16 num64 cut_at bad_at frame_of transferred record_of pack
answers = refl

starts : begun true none entries ≡ 0 ∷ 39 ∷ 39 ∷ 39 ∷ 42 ∷ 42 ∷ []
unfolding num16 num64 cut_at bad_at frame_of transferred record_of pack
starts = refl
