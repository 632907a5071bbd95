-- THE TABLE OF STRIKING (document 01, "Note on striking"; doubtful, document 02, wish 2): what is left of a log when the records answered 3 to 7, completed status reads, and the first
-- halves of such pairs are struck.
use Rattle.std.specs.Prelude.{ℕ, refl, List, [], ◌∷◌, ◌++◌}
use Rattle.demands.specs.cases.Logs.{instruct_at, write_at, status_at, read_at, reset_at, bad_record}
use Rattle.demands.specs.Mirrors.{ours}
use Rattle.demands.specs.Striking.{struck_log}
use Rattle.demands.specs.cases.RowCases.{Hold, recording, afresh}

-- on a fresh panel of the times 30,011 / 2,003 / 71
abbrev left : List ℕ → List ℕ
left log = struck_log ours (afresh 0 0) log

-- width 4 from 71 on
abbrev four : List ℕ
four = instruct_at 0 0x20

-- 85h in halves
abbrev pair : List ℕ
pair = instruct_at 71 0x80 ++ instruct_at 72 0x50

abbrev strikes : List (List ℕ × List ℕ)
strikes =
    ([], [])
    -- at width 8: ignored, back, bad, none and status are struck; what is taken stays, a reset too
    ∷ (instruct_at 0 0x06 ++ instruct_at 70 0x01 ++ status_at 70 ++ instruct_at 69 0x06 ++ bad_record ++ instruct_at 71 0x00 ++ write_at 71 0x41 ++ reset_at 90, instruct_at 0 0x06 ++ write_at 71 0x41 ++ reset_at 90)
    -- a doubtful read counts as taken, and stays; the read after it, and one after an address set and an ignored write, is good with or without what is struck
    ∷ (read_at 0 ++ status_at 10 ++ read_at 71, read_at 0 ++ read_at 71)
    ∷ (instruct_at 0 0x80 ++ write_at 70 0x41 ++ read_at 71, instruct_at 0 0x80 ++ read_at 71)
    -- at width 4: a pair that is taken stays, with its first half, whatever is struck between
    ∷ (four ++ pair, four ++ pair)
    ∷ (four ++ instruct_at 71 0x80 ++ bad_record ++ instruct_at 70 0x50 ++ instruct_at 72 0x50, four ++ pair)
    ∷ (four ++ read_at 71 ++ bad_record ++ read_at 72, four ++ read_at 71 ++ read_at 72)
    -- an ignored pair, a torn one, one ignored and then torn, 00h and a status read go with both halves
    ∷ (four ++ instruct_at 70 0x80 ++ instruct_at 71 0x50 ++ pair, four ++ pair)
    ∷ (four ++ instruct_at 71 0x80 ++ write_at 71 0x50 ++ pair, four ++ pair)
    ∷ (four ++ instruct_at 70 0x80 ++ write_at 71 0x50 ++ pair, four ++ pair)
    ∷ (four ++ instruct_at 71 0x00 ++ bad_record ++ instruct_at 71 0x00 ++ pair, four ++ pair)
    ∷ (four ++ status_at 70 ++ instruct_at 69 0x50 ++ status_at 71 ++ pair, four ++ pair)
    -- a first half that is never finished is no half of such a pair: dropped by a reset, or the last of the log
    ∷ (four ++ instruct_at 71 0x80 ++ reset_at 72, four ++ instruct_at 71 0x80 ++ reset_at 72)
    ∷ (four ++ instruct_at 71 0x80, four ++ instruct_at 71 0x80)
    ∷ (four ++ status_at 71, four ++ status_at 71)
    -- up to a cut
    ∷ (four ++ pair ++ (12 ∷ []), four ++ pair)
    ∷ (four ++ bad_record ++ (1 ∷ 0 ∷ []) ++ pair, four)
    ∷ []

pub strikes_computed : Hold left strikes
unfolding recording
strikes_computed = refl
