-- THE TABLE OF ANSWERS (document 01, "The log" and "Answer numbers"): both sides of every bound, and which of two answers comes first.
use Rattle.std.specs.Prelude.{ℕ, ◌+◌, ◌/◌, ◌%◌, refl, List, [], ◌∷◌, ◌++◌, map, replicate}
use Rattle.framing.specs.Frame.{frame_of, size_of}
use Rattle.mirror.specs.declared.half.Half.TheVariants.{Empty}
use Rattle.mirror.specs.declared.panel.Panel.{Panel}
use Rattle.demands.specs.cases.Logs.{instruct_at, write_at, status_at, read_at, transfer_at, reset_at, bad_record}
use Rattle.demands.specs.cases.RowCases.{Hold, Row, row, answered, recording, shows, regs, down, panel, doubted, held, missed, afresh}

-- a panel, and a row whose answer leaves it as it is: bytes, number, bytes used
abbrev before : Panel
before = panel (down 8) 900 Empty 800

abbrev stays : List ℕ → ℕ → ℕ → Row
stays bytes number used = row before bytes number 0 used before

-- two bytes of a number, the lower one first; a length and a kind before a body
abbrev two : ℕ → List ℕ
two n = n % 256 ∷ n / 256 ∷ []

abbrev framed : ℕ → ℕ → List ℕ → List ℕ
framed length kind body = two length ++ two kind ++ body

-- the body of a transfer, 04h at 1,000 (03E8h), and of a reset
abbrev transfer : List ℕ
transfer = 0xe8 ∷ 0x03 ∷ 0 ∷ 0 ∷ 0 ∷ 0 ∷ 0 ∷ 0 ∷ 0 ∷ 0x04 ∷ []

abbrev reset : List ℕ
reset = 0xe8 ∷ 0x03 ∷ 0 ∷ 0 ∷ 0 ∷ 0 ∷ 0 ∷ 0 ∷ []

-- whole records are taken, and what follows them is left alone
abbrev taken : List Row
taken =
    row before (framed 12 1 transfer) 0 0 14 (panel (doubted (regs (shows 9) 6 0 0 1 0 1 8 5)) 1_071 Empty 1_000)
    ∷ row before (framed 12 1 transfer ++ (0xff ∷ [])) 0 0 14 (panel (doubted (regs (shows 9) 6 0 0 1 0 1 8 5)) 1_071 Empty 1_000)
    ∷ row before (framed 12 1 transfer ++ reset_at 2_000) 0 0 14 (panel (doubted (regs (shows 9) 6 0 0 1 0 1 8 5)) 1_071 Empty 1_000)
    ∷ row before (framed 10 2 reset) 0 0 12 (afresh 31_011 1_000)
    ∷ row before (framed 10 2 reset ++ (0xff ∷ [])) 0 0 12 (afresh 31_011 1_000)
    ∷ []

-- 8: no byte, one byte, fewer than the length says, a length below 2 or above 64
abbrev cuts : List Row
cuts =
    stays [] 8 0
    ∷ stays (0 ∷ []) 8 0
    ∷ stays (12 ∷ []) 8 0
    ∷ stays (12 ∷ 0 ∷ []) 8 0
    ∷ stays (framed 12 1 (0xe8 ∷ 0x03 ∷ 0 ∷ 0 ∷ 0 ∷ 0 ∷ 0 ∷ 0 ∷ 0 ∷ [])) 8 0
    ∷ stays (framed 10 2 (0xe8 ∷ 0x03 ∷ 0 ∷ 0 ∷ 0 ∷ 0 ∷ 0 ∷ [])) 8 0
    ∷ stays (2 ∷ 0 ∷ []) 8 0
    ∷ stays (2 ∷ 0 ∷ 1 ∷ []) 8 0
    ∷ stays (framed 0 1 transfer) 8 0
    ∷ stays (0 ∷ 0 ∷ []) 8 0
    ∷ stays (framed 1 1 transfer) 8 0
    ∷ stays (1 ∷ 0 ∷ 1 ∷ []) 8 0
    ∷ stays (framed 64 1 (replicate 61 0)) 8 0
    ∷ stays (framed 65 1 (replicate 63 0)) 8 0
    ∷ stays (framed 65 1 (replicate 90 0)) 8 0
    ∷ stays (framed 66 1 (replicate 90 0)) 8 0
    -- both bytes of the length count, the lower one first: 268 is not 12
    ∷ stays (12 ∷ 1 ∷ 1 ∷ 0 ∷ transfer) 8 0
    ∷ stays (12 ∷ 1 ∷ 1 ∷ 0 ∷ transfer ++ replicate 300 0) 8 0
    ∷ stays (0 ∷ 12 ∷ 1 ∷ 0 ∷ transfer) 8 0
    ∷ []

-- 6: a kind that is not 1 or 2, in both of its bytes; a length that is not its kind's; lengths 2 and 64 are no cut
abbrev bads : List Row
bads =
    stays (framed 2 0 []) 6 4
    ∷ stays (framed 2 1 []) 6 4
    ∷ stays (framed 2 2 []) 6 4
    ∷ stays (framed 2 3 []) 6 4
    ∷ stays (framed 3 3 (0 ∷ [])) 6 5
    ∷ stays (framed 64 1 (replicate 62 0)) 6 66
    ∷ stays (framed 64 2 (replicate 62 0)) 6 66
    ∷ stays (framed 64 3 (replicate 62 0)) 6 66
    ∷ stays (framed 63 3 (replicate 62 0)) 6 65
    ∷ stays (framed 12 0 transfer) 6 14
    ∷ stays (framed 12 3 transfer) 6 14
    ∷ stays (framed 12 256 transfer) 6 14
    ∷ stays (framed 12 257 transfer) 6 14
    ∷ stays (framed 12 258 transfer) 6 14
    ∷ stays (framed 10 0 reset) 6 12
    ∷ stays (framed 10 3 reset) 6 12
    ∷ stays (framed 10 257 reset) 6 12
    ∷ stays (framed 10 258 reset) 6 12
    ∷ stays (framed 10 512 reset) 6 12
    ∷ stays (framed 11 1 transfer) 6 13
    ∷ stays (framed 13 1 (transfer ++ (0 ∷ []))) 6 15
    ∷ stays (framed 10 1 reset) 6 12
    ∷ stays (framed 9 2 reset) 6 11
    ∷ stays (framed 11 2 (reset ++ (0 ∷ []))) 6 13
    ∷ stays (framed 12 2 transfer) 6 14
    ∷ []

-- a control bit above 1; controls 0 to 3 are the four transfers
abbrev controls : List Row
controls =
    map (λ control. stays (transfer_at control 1_000 0x04) 6 14) (4 ∷ 5 ∷ 6 ∷ 7 ∷ 8 ∷ 16 ∷ 32 ∷ 64 ∷ 128 ∷ 130 ∷ 255 ∷ [])
    ++ (row before (transfer_at 2 1_000 0x04) 2 0x09 14 (panel (down 8) 900 Empty 1_000)
    ∷ row before (transfer_at 3 1_000 0x04) 0 0x69 14 (panel (regs (shows 8) 6 0 1 1 0 1 8 5) 1_071 Empty 1_000)
    ∷ [])

-- a transfer of 04h and a reset at the time whose eight bytes are given
abbrev transfer_timed : List ℕ → List ℕ
transfer_timed time = framed 12 1 (time ++ (0 ∷ 0x04 ∷ []))

abbrev reset_timed : List ℕ → List ℕ
reset_timed time = framed 10 2 time

-- 04h taken from a last time and a busy end, at a time
abbrev taken_at : ℕ → ℕ → List ℕ → ℕ → Row
taken_at busy last bytes time = row (panel (down 8) busy Empty last) bytes 0 0 14 (panel (doubted (regs (shows 9) 6 0 0 1 0 1 8 5)) (time + 71) Empty time)

-- Times: eight bytes, the lowest first; 2^48 - 1 is a time, 2^48 is none, and nothing above it
abbrev times : List Row
times =
    taken_at 900 800 (transfer_timed (0x06 ∷ 0x05 ∷ 0x04 ∷ 0x03 ∷ 0x02 ∷ 0x01 ∷ 0 ∷ 0 ∷ [])) 0x0102_0304_0506
    ∷ taken_at 900 800 (transfer_timed (0xff ∷ 0xff ∷ 0xff ∷ 0xff ∷ 0xff ∷ 0xff ∷ 0 ∷ 0 ∷ [])) 0xffff_ffff_ffff
    ∷ row before (reset_timed (0xff ∷ 0xff ∷ 0xff ∷ 0xff ∷ 0xff ∷ 0xff ∷ 0 ∷ 0 ∷ [])) 0 0 12 (afresh 0x1_0000_0000_753a 0xffff_ffff_ffff)
    ∷ stays (transfer_timed (0 ∷ 0 ∷ 0 ∷ 0 ∷ 0 ∷ 0 ∷ 1 ∷ 0 ∷ [])) 6 14
    ∷ stays (transfer_timed (0 ∷ 0 ∷ 0 ∷ 0 ∷ 0 ∷ 0 ∷ 0 ∷ 1 ∷ [])) 6 14
    ∷ stays (transfer_timed (0xe8 ∷ 0x03 ∷ 0 ∷ 0 ∷ 0 ∷ 0 ∷ 0x80 ∷ 0 ∷ [])) 6 14
    ∷ stays (transfer_timed (0xff ∷ 0xff ∷ 0xff ∷ 0xff ∷ 0xff ∷ 0xff ∷ 0xff ∷ 0xff ∷ [])) 6 14
    ∷ stays (reset_timed (0 ∷ 0 ∷ 0 ∷ 0 ∷ 0 ∷ 0 ∷ 1 ∷ 0 ∷ [])) 6 12
    ∷ stays (reset_timed (0 ∷ 0 ∷ 0 ∷ 0 ∷ 0 ∷ 0 ∷ 0 ∷ 1 ∷ [])) 6 12
    ∷ []

-- 5: below the last time, and not at it; whatever the busy end and the half
abbrev backs : List Row
backs =
    stays (instruct_at 799 0x04) 5 14
    ∷ stays (instruct_at 0 0x04) 5 14
    ∷ stays (status_at 799) 5 14
    ∷ stays (reset_at 799) 5 12
    ∷ taken_at 800 800 (instruct_at 800 0x04) 800
    ∷ taken_at 0 800 (instruct_at 800 0x04) 800
    ∷ row (panel (down 8) 0 Empty 800) (instruct_at 799 0x04) 5 0 14 (panel (down 8) 0 Empty 800)
    ∷ row (panel (down 8) 0 Empty 0x0102_0304_0506) (transfer_timed (0x05 ∷ 0x05 ∷ 0x04 ∷ 0x03 ∷ 0x02 ∷ 0x01 ∷ 0 ∷ 0 ∷ [])) 5 0 14
    (panel (down 8) 0 Empty 0x0102_0304_0506)
    ∷ taken_at 0 0x0102_0304_0506 (transfer_timed (0x06 ∷ 0x05 ∷ 0x04 ∷ 0x03 ∷ 0x02 ∷ 0x01 ∷ 0 ∷ 0 ∷ [])) 0x0102_0304_0506
    ∷ []

-- The order 10, 8, 6, 5, reset, 4, 3, 7 where two apply
abbrev unsound : Panel
unsound = panel (regs (shows 9) 16 0 1 1 0 1 4 5) 900 (held 0 0 6) 800

abbrev refused : List ℕ → Row
refused bytes = row unsound bytes 10 0 0 unsound

-- a panel at width 4, busy, with a half that waits or was ignored
abbrev waiting : Panel
waiting = panel (down 4) 5_000 (held 0 0 6) 800

abbrev ignored : Panel
ignored = panel (down 4) 5_000 (missed 0 0) 800

abbrev orders : List Row
orders =
    -- 10 before all: good, cut, bad, back, reset, torn
    refused (instruct_at 1_000 0x50)
    ∷ refused []
    ∷ refused (12 ∷ [])
    ∷ refused (framed 65 1 (replicate 90 0))
    ∷ refused bad_record
    ∷ refused (instruct_at 799 0x50)
    ∷ refused (reset_at 1_000)
    ∷ refused (write_at 1_000 0x50)
    ∷ refused (status_at 1_000)
    -- 8 before 6: a length that is cut, of an unknown kind, with a control of 4
    ∷ stays (framed 65 3 (replicate 90 0)) 8 0
    ∷ stays (framed 12 3 reset) 8 0
    ∷ stays (framed 12 1 (0 ∷ 0 ∷ 0 ∷ 0 ∷ 0 ∷ 0 ∷ 1 ∷ 0 ∷ 4 ∷ [])) 8 0
    -- 8 before 5
    ∷ stays (framed 12 1 (0 ∷ 0 ∷ 0 ∷ 0 ∷ 0 ∷ 0 ∷ 0 ∷ 0 ∷ 0 ∷ [])) 8 0
    -- 6 before 5: back in time with a control of 4, of an unknown kind, of a wrong length
    ∷ stays (transfer_at 4 799 0x04) 6 14
    ∷ stays (framed 12 3 (replicate 10 0)) 6 14
    ∷ stays (framed 12 2 (replicate 10 0)) 6 14
    ∷ stays (framed 13 1 (replicate 11 0)) 6 15
    -- 5 before a reset, 4, 3 and 7: the half stays
    ∷ row waiting (reset_at 799) 5 0 12 waiting
    ∷ row waiting (write_at 799 0x50) 5 0 14 waiting
    ∷ row waiting (instruct_at 799 0x50) 5 0 14 waiting
    ∷ row ignored (instruct_at 799 0x50) 5 0 14 ignored
    ∷ row ignored (read_at 799) 5 0 14 ignored
    ∷ row (panel (down 8) 5_000 Empty 800) (instruct_at 799 0x00) 5 0 14 (panel (down 8) 5_000 Empty 800)
    -- bad and cut leave the half too
    ∷ row waiting (transfer_at 4 1_000 0x50) 6 0 14 waiting
    ∷ row ignored bad_record 6 0 4 ignored
    ∷ row waiting [] 8 0 0 waiting
    -- a reset before 4 and 3
    ∷ row ignored (reset_at 1_000) 0 0 12 (afresh 31_011 1_000)
    -- 4 before 3, 3 before 7 (more of them in HalfCases)
    ∷ row ignored (write_at 1_000 0x50) 4 0 14 (panel (down 4) 5_000 Empty 1_000)
    ∷ row ignored (instruct_at 1_000 0x00) 3 0 14 (panel (down 4) 5_000 Empty 1_000)
    ∷ []

pub answers_computed : Hold answered (taken ++ cuts ++ bads ++ controls ++ times ++ backs ++ orders)
unfolding recording
answers_computed = refl

-- the bytes that a record takes up: its length and the length's own two, none where it is cut, whatever follows
abbrev taking : List ℕ → ℕ
taking bytes = size_of (frame_of bytes)

abbrev sizes : List (List ℕ × ℕ)
sizes =
    (framed 12 1 transfer ++ (0xff ∷ []), 14)
    ∷ (framed 10 2 reset ++ (0xff ∷ []), 12)
    ∷ (framed 2 3 [] ++ (0xff ∷ []), 4)
    ∷ (framed 64 3 (replicate 90 0), 66)
    ∷ (framed 65 3 (replicate 90 0), 0)
    ∷ ([], 0)
    ∷ []

pub sizes_computed : Hold taking sizes
unfolding recording
sizes_computed = refl
