-- The framing at the rules' own record and at each edge: computed, so that the definitions can be seen at work.
use Rattle.std.specs.Prelude.{ℕ, ◌^◌, ◌-◌, ◌≡◌, refl, true, false, List, [], ◌∷◌, ◌++◌, take}
use Rattle.framing.specs.declared.frame.Frame.TheVariants.{Cut, Bad, Transfer, Reset}
use Rattle.framing.specs.Frame.{num16, num64, cut_at, bad_at, frame_of, wants_more}
use Rattle.framing.specs.laws.CutLaws.{broken}
use Rattle.framing.specs.Frames.{pieces_from, frames, tail}

abbrev none : List ℕ
none = 0 ∷ 0 ∷ 0 ∷ 0 ∷ 0 ∷ 0 ∷ 0 ∷ []

-- a length and a kind, both below 256
abbrev opens : ℕ → ℕ → List ℕ
opens n kind = n ∷ 0 ∷ kind ∷ 0 ∷ []

-- 2^48, and one less
abbrev late : List ℕ
late = 0 ∷ 0 ∷ 0 ∷ 0 ∷ 0 ∷ 0 ∷ 1 ∷ 0 ∷ []

abbrev last : List ℕ
last = 255 ∷ 255 ∷ 255 ∷ 255 ∷ 255 ∷ 255 ∷ 0 ∷ 0 ∷ []

-- Clear at 100
abbrev clear : List ℕ
clear = opens 12 1 ++ (100 ∷ none) ++ (0 ∷ 1 ∷ [])

clear_frame : frame_of clear ≡ Transfer 100 false false 1
unfolding num16 num64 cut_at bad_at frame_of
clear_frame = refl

reset_frame : frame_of (opens 10 2 ++ last) ≡ Reset (2 ^ 48 - 1)
unfolding num16 num64 cut_at bad_at frame_of
reset_frame = refl

-- control: RS and R/W are its two low bits, and 4 is bad
both_bits : frame_of (opens 12 1 ++ last ++ (3 ∷ 87 ∷ [])) ≡ Transfer (2 ^ 48 - 1) true true 87
unfolding num16 num64 cut_at bad_at frame_of
both_bits = refl

stray_bit : frame_of (opens 12 1 ++ last ++ (4 ∷ 87 ∷ [])) ≡ Bad 14
unfolding num16 num64 cut_at bad_at frame_of
stray_bit = refl

-- a time of 2^48, a wrong length and an unknown kind are bad
late_transfer : frame_of (opens 12 1 ++ late ++ (0 ∷ 1 ∷ [])) ≡ Bad 14
unfolding num16 num64 cut_at bad_at frame_of
late_transfer = refl

long_reset : frame_of (opens 12 2 ++ last ++ (0 ∷ 1 ∷ [])) ≡ Bad 14
unfolding num16 num64 cut_at bad_at frame_of
long_reset = refl

other_kind : frame_of (opens 2 3) ≡ Bad 4
unfolding num16 num64 cut_at bad_at frame_of
other_kind = refl

-- a record that lacks a byte is cut and wants more; a length of 65, or of 256, is cut for good
lacks_one : frame_of (take 13 clear) ≡ Cut
unfolding num16 num64 cut_at bad_at frame_of
lacks_one = refl

wants_one : wants_more (take 13 clear) ≡ true
unfolding num16
wants_one = refl

outside : broken (65 ∷ 0 ∷ []) ≡ true
unfolding num16
outside = refl

little_endian : broken (0 ∷ 1 ∷ []) ≡ true
unfolding num16
little_endian = refl

-- two records and a tail
two_records : frames (clear ++ clear ++ (12 ∷ [])) ≡ clear ∷ clear ∷ []
unfolding num16 cut_at pieces_from
two_records = refl

one_byte_left : tail (clear ++ clear ++ (12 ∷ [])) ≡ 12 ∷ []
unfolding num16 cut_at pieces_from
one_byte_left = refl
