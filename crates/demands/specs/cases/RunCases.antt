-- THE TABLE OF RUNS (document 01, "Counts"): a run's counts, its number of records, whether it was cut or refused, and the panel after it.
use Rattle.std.specs.Prelude.{ℕ, refl, Bool, true, false, List, [], ◌∷◌, ◌++◌, replicate}
use Rattle.framing.specs.Frames.{records_of}
use Rattle.mirror.specs.Stream.{run_of}
use Rattle.mirror.specs.declared.half.Half.TheVariants.{Empty}
use Rattle.mirror.specs.declared.panel.Panel.{Panel}
use Rattle.mirror.specs.declared.stream.Run.{Run}
use Rattle.demands.specs.cases.Logs.{instruct_at, write_at, status_at, read_at, reset_at, bad_record}
use Rattle.demands.specs.cases.RowCases.{Hold, recording, shows, regs, with, panel_with, panel, down, doubted, held, blank, afresh}

-- every answer from 0 to 7, and 11, on a fresh panel of the times 30,011 / 2,003 / 71
abbrev all : List ℕ
all =
    -- width 4: taken, busy to 71
    instruct_at 0 0x20
    -- 8 and 5 begun at 70: ignored twice, and the pair after it is whole again, but torn
    ++ instruct_at 70 0x80 ++ instruct_at 71 0x50 ++ instruct_at 71 0x80 ++ write_at 72 0x50
    -- after a torn pair a new one begins: 85h, held and taken, busy to 145
    ++ instruct_at 73 0x80 ++ instruct_at 74 0x50
    -- back, and bad
    ++ instruct_at 73 0x50 ++ bad_record
    -- status in two halves while busy: held, status
    ++ status_at 100 ++ status_at 101
    -- 00h in two halves: held, none
    ++ instruct_at 145 0x00 ++ instruct_at 146 0x00
    -- 41h written at 5, held and taken, busy to 218; a read at 6, held and doubtful, busy to 290, after which the next read is good
    ++ write_at 146 0x40 ++ write_at 147 0x10 ++ read_at 218 ++ read_at 219

-- the counts of the answers 0, 11, and 1 to 7, in this order
abbrev all_counts : List ℕ
all_counts = 3 ∷ 1 ∷ 6 ∷ 1 ∷ 2 ∷ 1 ∷ 1 ∷ 1 ∷ 1 ∷ []

abbrev all_panel : Panel
all_panel = panel_with (regs (shows 7) 0 1 0 0 0 0 4 0) (with 5 0x41 blank) (replicate 32 0) 290 Empty 219

-- a panel that is not sound: address 16
abbrev unsound : Panel
unsound = panel (regs (shows 16) 6 0 1 1 0 1 4 5) 900 (held 0 0 6) 800

abbrev ran : Panel × List ℕ → Run
ran given = run_of given.0 given.1

-- panel before, log; panel afterwards, counts, number of records, cut, refused
abbrev run_row : Panel → List ℕ → Panel → List ℕ → ℕ → Bool → Bool → (Panel × List ℕ) × Run
run_row before log after counts records cut refused =
    ((before, log), record { panel = after; counts = counts; records = records; cut = cut; refused = refused })

abbrev runs : List ((Panel × List ℕ) × Run)
runs =
    run_row (afresh 0 0) all all_panel all_counts 17 false false
    -- cut by one byte left, by a record that is too short, and by a length of 1 or of 65: what comes after is not read
    ∷ run_row (afresh 0 0) (all ++ (12 ∷ [])) all_panel all_counts 17 true false
    ∷ run_row (afresh 0 0) (all ++ (12 ∷ 0 ∷ 1 ∷ [])) all_panel all_counts 17 true false
    ∷ run_row (afresh 0 0) (all ++ (1 ∷ 0 ∷ []) ++ reset_at 500) all_panel all_counts 17 true false
    ∷ run_row (afresh 0 0) (all ++ (65 ∷ 0 ∷ []) ++ reset_at 500 ++ replicate 90 0) all_panel all_counts 17 true false
    -- a run from a panel that is nowhere fresh
    ∷ run_row (panel (down 8) 900 Empty 800) (instruct_at 1_000 0x04 ++ instruct_at 1_070 0x04 ++ instruct_at 999 0x04)
    (panel (doubted (regs (shows 9) 6 0 0 1 0 1 8 5)) 1_071 Empty 1_070) (1 ∷ 0 ∷ 0 ∷ 0 ∷ 1 ∷ 0 ∷ 1 ∷ 0 ∷ 0 ∷ []) 3 false false
    -- refused: all counts 0 and not cut, though its log is; the number of records is read off the lengths
    ∷ run_row unsound all unsound (replicate 9 0) 17 false true
    ∷ run_row unsound (all ++ (12 ∷ [])) unsound (replicate 9 0) 17 false true
    ∷ run_row unsound [] unsound (replicate 9 0) 0 false true
    -- an empty log, and one whose only byte is no record
    ∷ run_row (afresh 0 0) [] (afresh 0 0) (replicate 9 0) 0 false false
    ∷ run_row (afresh 0 0) (12 ∷ []) (afresh 0 0) (replicate 9 0) 0 true false
    ∷ []

pub runs_computed : Hold ran runs
unfolding recording
runs_computed = refl

-- the number of records: lengths alone decide, up to the cut
abbrev lengths : List (List ℕ × ℕ)
lengths =
    ([], 0)
    ∷ (all, 17)
    ∷ (all ++ (12 ∷ []), 17)
    ∷ (12 ∷ [], 0)
    ∷ (12 ∷ 0 ∷ [], 0)
    ∷ (bad_record ++ bad_record, 2)
    ∷ (bad_record ++ (1 ∷ 0 ∷ []) ++ bad_record, 1)
    ∷ (bad_record ++ (0 ∷ 0 ∷ []) ++ bad_record, 1)
    ∷ (64 ∷ 0 ∷ replicate 64 7 ++ bad_record, 2)
    ∷ (64 ∷ 0 ∷ replicate 63 7, 0)
    ∷ (65 ∷ 0 ∷ replicate 65 7 ++ bad_record, 0)
    ∷ (12 ∷ 1 ∷ replicate 300 7, 0)
    ∷ []

pub lengths_computed : Hold records_of lengths
unfolding recording
lengths_computed = refl
