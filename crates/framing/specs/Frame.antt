-- The framing of the log: what stands at the front of a slice of its bytes.
use Rattle.std.specs.Prelude.{ℕ, ◌+◌, ◌*◌, ◌/◌, ◌%◌, ◌^◌, Bool, not, ◌&&◌, ◌||◌, Option, Some, None, List, length, get_or, ltb, leb, eqb}
use Rattle.laws.specs.Pick.{pick}
use Rattle.framing.specs.declared.frame.Frame.{Frame}
use Rattle.framing.specs.declared.frame.Frame.TheVariants.{Cut, Bad, Transfer, Reset}

-- all numbers are little-endian: one of two bytes at a place, and one of eight
unfoldable pub num16 : List ℕ → ℕ → ℕ
num16 s at = get_or s at 0 + 256 * get_or s (at + 1) 0

unfoldable pub num64 : List ℕ → ℕ → ℕ
num64 s at = num16 s at + 2 ^ 16 * num16 s (at + 2) + 2 ^ 32 * num16 s (at + 4) + 2 ^ 48 * num16 s (at + 6)

-- a record is a two-byte length, counting the bytes that follow it, then a two-byte kind, then the body
abbrev pub length_of : List ℕ → ℕ
length_of s = num16 s 0

abbrev pub kind_of : List ℕ → ℕ
kind_of s = num16 s 2

-- the body: a time of eight bytes; in a transfer then control and data
abbrev pub time_of : List ℕ → ℕ
time_of s = num64 s 4

abbrev pub control_of : List ℕ → ℕ
control_of s = get_or s 12 0

abbrev pub data_of : List ℕ → ℕ
data_of s = get_or s 13 0

-- control: bit 0 is RS, bit 1 is R/W
abbrev pub rs_of : List ℕ → Bool
rs_of s = eqb (control_of s % 2) 1

abbrev pub rw_of : List ℕ → Bool
rw_of s = eqb (control_of s / 2 % 2) 1

-- kind 1 is a transfer, kind 2 a reset
abbrev pub is_transfer : List ℕ → Bool
is_transfer s = eqb (kind_of s) 1

abbrev pub is_reset : List ℕ → Bool
is_reset s = eqb (kind_of s) 2

-- a record's size, with the length's own two bytes
abbrev pub record_size : List ℕ → ℕ
record_size s = length_of s + 2

-- one byte left, or none
abbrev pub no_length : List ℕ → Bool
no_length s = ltb (length s) 2

-- a length outside 2 to 64
abbrev pub outside_length : List ℕ → Bool
outside_length s = ltb (length_of s) 2 || ltb 64 (length_of s)

-- fewer bytes left than the length says
abbrev pub too_short : List ℕ → Bool
too_short s = ltb (length s) (record_size s)

-- cut: any of these
unfoldable pub cut_at : List ℕ → Bool
cut_at s = no_length s || outside_length s || too_short s

-- where a log comes in parts: a cut that more bytes may mend, for the length isn't there yet or what it counts isn't
abbrev pub wants_more : List ℕ → Bool
wants_more s = no_length s || (not (outside_length s) && too_short s)

-- an unknown kind
abbrev pub unknown_kind : List ℕ → Bool
unknown_kind s = not (is_transfer s || is_reset s)

-- a wrong length for its kind: a transfer has 12, a reset 10
abbrev pub wrong_length : List ℕ → Bool
wrong_length s = not (eqb (length_of s) (pick (is_reset s) 10 12))

-- a time of 2^48 or more
abbrev pub late_time : List ℕ → Bool
late_time s = leb (2 ^ 48) (time_of s)

-- a control bit above 1 set; a reset has no control
abbrev pub stray_control : List ℕ → Bool
stray_control s = is_transfer s && leb 4 (control_of s)

-- bad: any of these
unfoldable pub bad_at : List ℕ → Bool
bad_at s = unknown_kind s || wrong_length s || late_time s || stray_control s

-- what stands at the front: cut comes before bad
unfoldable pub frame_of : List ℕ → Frame
frame_of s =
    pick (cut_at s) Cut
    (pick (bad_at s) (Bad (record_size s))
    (pick (is_reset s) (Reset (time_of s)) (Transfer (time_of s) (rs_of s) (rw_of s) (data_of s))))

-- the bytes that a frame takes up
abbrev pub size_of : Frame → ℕ
size_of Cut = 0
size_of (Bad n) = n
size_of (Transfer t rs reads d) = 14
size_of (Reset t) = 12

-- the size that the length tells: none where it is not there yet or lies outside
unfoldable pub told_size : List ℕ → Option ℕ
told_size s = pick (no_length s || outside_length s) None (Some (record_size s))

-- the bytes that the record at the front takes up, off the lengths alone: none where it is cut
unfoldable pub whole_size : List ℕ → Option ℕ
whole_size s = pick (cut_at s) None (Some (record_size s))
