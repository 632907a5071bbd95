-- The bits of the written places are the walk's answer, over any number of places.
use Rattle.std.specs.Prelude.{ℕ, zero, suc, ◌+◌, ◌-◌, ◌*◌, ◌%◌, ◌^◌, ◌<◌, ◌≤◌, ◌≡◌, refl, Bool, true, false, not, List, [], ◌∷◌, length, get_or, set, drop, replicate, reverse, ltb, eqb}
use Rattle.std.proofs.Common.{sym, ap, ◌∙◌, arith, lt_of_lt_of_le, pow_mono, length-drop, get_or-set_same, get_or-set_other, get_or-drop, eqb-true, le-ltb}
use mir.Val.{bool_byte}
use lib.Pow.{shl_exact}
use Rattle.std.specs.List.{fold}
use Rattle.std.specs.Int.Bits.{bit_or, bit_xor}
use Rattle.std.proofs.lemmas.Bool.{eqb-false}
use Rattle.std.proofs.lemmas.Grind.{fold-append, reverse_onto, or_after_shift}
use Rattle.std.proofs.lemmas.List.Sums.{AllPass-from_list_all}
use Rattle.std.proofs.iter.runs.Made.{chains}
use Rattle.laws.specs.Pick.{pick}
use Rattle.laws.specs.Bit.{bit, one, pack, with_bit}
use Rattle.laws.specs.laws.BitLaws.{one_lt, bit_pack, pack_ext, pack_lt, with_pack, bit_anew}
use Rattle.chip.specs.Sizes.{places_of, display_size, pattern_size, function_end, space}
use Rattle.chip.specs.Address.{display, pattern}
use Rattle.chip.specs.Instruction.{is_set, unset, decoded}
use Rattle.chip.specs.Written.{unblank, is_written, written_in}
use Rattle.chip.specs.Step.{obeyed, stored_display, stored_at, stepped, next_good, followed, written_at, passed}
use Rattle.chip.specs.Sound.{blank_past}
use Rattle.chip.proofs.laws.SizesLaws.{place_below}
use Rattle.chip.proofs.laws.CodeLaws.{Keeps, either, kept}
use Rattle.chip.proofs.laws.CodeLaws.Keeps.{keeps}
use Rattle.chip.specs.declared.address.DisplayAddress.{DisplayAddress}
use Rattle.chip.specs.declared.address.PatternAddress.{PatternAddress}
use Rattle.chip.specs.declared.address.Address.TheVariants.{Display, Pattern}
use Rattle.chip.specs.declared.instruction.Instruction.TheVariants.{Home, Entry, Screen, Move, Shift, Function, Set}
use Rattle.chip.specs.declared.sheet.Sheet.{Sheet}

-- a truth value is cast to its bit
pub cast_bit : (b : Bool) → bool_byte b ≡ one b
cast_bit true = refl
cast_bit false = refl

-- bit a is 1 exactly when the byte at address a isn't 20h
pub walk_bit : (n : ℕ) (m : List ℕ) (a : ℕ) → a < n → bit (written_in n m) a ≡ one (is_written m a)
walk_bit n m a p = bit_pack (λ k. one (is_written m k)) n a (λ k. one_lt (is_written m k)) p

-- so many places are a number of so many bits
pub walk_lt : (n k : ℕ) (m : List ℕ) → k ≤ n → written_in k m < 2 ^ n
walk_lt n k m h = lt_of_lt_of_le (pack_lt (λ i. one (is_written m i)) k (λ i. one_lt (is_written m i))) (pow_mono h)

-- a write keeps it: with its one bit anew the bits are the walk's answer again
pub walk_stored : (n : ℕ) (m : List ℕ) (i x : ℕ) → with_bit n i (is_written (set m i x) i) (written_in n m) ≡ written_in n (set m i x)
walk_stored n m i x =
    with_pack n i (is_written (set m i x) i) (λ k. one (is_written m k)) (λ k. one_lt (is_written m k)) ∙
    pack_ext (λ k. pick (eqb k i) (one (is_written (set m i x) i)) (one (is_written m k))) (λ k. one (is_written (set m i x) k)) n (λ k p. by k (eqb k i) refl)
  where
    by : (k : ℕ) (b : Bool) → eqb k i ≡ b → pick b (one (is_written (set m i x) i)) (one (is_written m k)) ≡ one (is_written (set m i x) k)
    by k true e = ap (λ (j : ℕ). one (is_written (set m i x) j)) (sym (eqb-true k i e))
    by k false e = ap (λ (y : ℕ). one (unblank y)) (sym (get_or-set_other m i k x 0 (eqb-false k i e)))

-- that bit is whether the byte stored isn't 20h
pub stored_bit : (m : List ℕ) (i x : ℕ) → i < length m → is_written (set m i x) i ≡ unblank x
stored_bit m i x h = ap unblank (get_or-set_same m i x 0 h)

-- spaces alone have no bit, as after Clear and a reset
pub walk_blank : (n : ℕ) → written_in n (replicate n space) ≡ 0
unfolding pack
walk_blank zero = refl
walk_blank (suc n) = ap (λ (x : ℕ). 0 + 2 * x) (walk_blank n)

-- one turn of the walk, from the last place down: a number of less than 32 bits, and the next bit below it
abbrev pub turn : ℕ → ℕ → ℕ
turn bits byte = bit_or (bits * 2 % 2 ^ display_size) (bool_byte (unblank byte))

turned : (bits byte : ℕ) → bits * 2 < 2 ^ display_size → turn bits byte ≡ one (unblank byte) + 2 * bits
turned bits byte h =
    or_after_shift bits 2 (2 ^ display_size) (bool_byte (unblank byte)) refl (omega (arith, one_lt (unblank byte), cast_bit (unblank byte))) h ∙ omega (arith, cast_bit (unblank byte))

-- the walk is its turns over all places
pub walk_turns : (m : List ℕ) → length m ≤ display_size → fold turn 0 (reverse m) ≡ written_in (length m) m
unfolding pack
walk_turns [] h = refl
walk_turns (x ∷ m) h =
    ap (fold turn 0) (reverse_onto m x []) ∙ fold-append turn 0 (reverse m) (x ∷ []) ∙ ap (λ b. turn b x) (walk_turns m (omega arith))
    ∙ turned (written_in (length m) m) x (omega (arith, walk_lt (display_size - 1) (length m) m (omega arith)))

pub walked : (m : List ℕ) {bits : ℕ} → length m ≡ display_size → bits ≡ fold turn 0 (reverse m) → bits ≡ written_in display_size m
walked m size turns = turns ∙ walk_turns m (omega arith) ∙ ap (λ (n : ℕ). written_in n m) size

pub ruleset walk = (walked, chains)

-- one bit set by `or`, cleared by `xor` and set anew by `or`: what is shifted there stays in the number
shifted : (b : Bool) (place : ℕ) → place < display_size → bool_byte b * 2 ^ place % 2 ^ display_size ≡ one b * 2 ^ place
shifted b place h =
    ap (λ (x : ℕ). x * 2 ^ place % 2 ^ display_size) (cast_bit b) ∙ shl_exact {a = one b} 1 place display_size (one_lt b) (omega arith)

pub anew : (bits place : ℕ) (set : Bool) → place < display_size → bits < 2 ^ display_size →
    let m = 1 * 2 ^ place % 2 ^ display_size in
    bit_or (bit_xor (bit_or bits m) m) (bool_byte set * 2 ^ place % 2 ^ display_size) ≡ with_bit display_size place set bits
anew bits place set h l =
    ap (λ (m : ℕ). bit_or (bit_xor (bit_or bits m) m) (bool_byte set * 2 ^ place % 2 ^ display_size)) (shl_exact {a = 1} 1 place display_size (omega arith) (omega arith))
    ∙ ap (λ (v : ℕ). bit_or (bit_xor (bit_or bits (1 * 2 ^ place)) (1 * 2 ^ place)) v) (shifted set place h)
    ∙ bit_anew display_size place set bits h l

-- a display write sets its one bit where the byte isn't 20h, and clears it where it is
pub write_marks : (a : DisplayAddress) (byte : ℕ) (s : Sheet) → display_size ≤ length s.display →
    (stored_display a byte s).registers.written ≡ with_bit display_size (a.0 % places_of s.registers.chip) (unblank byte) s.registers.written
write_marks a byte s h =
    let i = a.0 % places_of s.registers.chip in
    ap (λ b. with_bit display_size i b s.registers.written) (stored_bit s.display i byte (lt_of_lt_of_le (place_below s.registers.chip a.0) h))

-- so does the whole write: what follows it leaves the bits
pub display_write_marks : (d : DisplayAddress) (byte : ℕ) (s : Sheet) → display_size ≤ length s.display →
    (written_at (Display d) byte s).registers.written ≡ with_bit display_size (d.0 % places_of s.registers.chip) (unblank byte) s.registers.written
display_write_marks d byte s h = by s.registers.follow ∙ write_marks d byte s h
  where
    by : (b : Bool) → (followed b (next_good false (stepped s.registers.up (stored_at (Display d) byte s)))).registers.written ≡ (stored_display d byte s).registers.written
    by true = refl
    by false = refl

-- a write in pattern memory leaves every bit, and so does a data read
pub pattern_write_leaves : (p : PatternAddress) (byte : ℕ) (s : Sheet) → (written_at (Pattern p) byte s).registers.written ≡ s.registers.written
pattern_write_leaves p byte s = refl

pub read_leaves : (s : Sheet) → (passed s).registers.written ≡ s.registers.written
read_leaves s = refl

-- Clear clears them all
pub clear_unwrites : (s : Sheet) → (obeyed 0x01 s).registers.written ≡ 0
clear_unwrites s = refl

-- and every other code leaves them
pub code_leaves : (code : ℕ) (s : Sheet) → 2 ≤ code → (obeyed code s).registers.written ≡ s.registers.written
code_leaves code s h = kept leaving s
  where
    chip : ℕ
    chip = s.registers.chip

    leaving : Keeps (λ r. r.written) (decoded chip code)
    leaving =
        rw (le-ltb code 0x01 (omega arith), le-ltb code 0x02 h)
        (either (ltb code 0x04) (keeps Home (λ s. refl))
        (either (ltb code 0x08) (keeps (Entry (is_set 2 code) (is_set 1 code)) (λ s. refl))
        (either (ltb code 0x10) (keeps (Screen (is_set 4 code) (is_set 2 code) (is_set 1 code)) (λ s. refl))
        (either (ltb code 0x18) (keeps (Move (is_set 4 code)) (λ s. refl))
        (either (ltb code 0x20) (keeps (Shift (unset 4 code)) (λ s. refl))
        (either (ltb code 0x40) (keeps (Function (is_set 0x10 code) (code % function_end)) (λ s. refl))
        (either (ltb code 0x80) (keeps (Set (Pattern (pattern (code % pattern_size)))) (λ s. refl)) (keeps (Set (Display (display (code % places_of chip)))) (λ s. refl)))))))))

-- a byte past the chip's own places is a space, so its bit is 0
pub past_unwritten : (chip : ℕ) (m : List ℕ) (a : ℕ) → blank_past chip m ≡ true → places_of chip ≤ a → a < length m → is_written m a ≡ false
past_unwritten chip m a e l h =
    let n = places_of chip in
    let whole : n + (a - n) ≡ a = omega arith in
    ap (λ (i : ℕ). unblank (get_or m i 0)) (sym whole) ∙ ap unblank (sym (get_or-drop n m (a - n) 0))
    ∙ ap not (AllPass-from_list_all (λ x. eqb x space) (drop n m) e (a - n) 0 (omega (arith, length-drop n m)))
