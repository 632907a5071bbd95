-- Laws of a cut: whether more bytes may mend it.
use Rattle.std.specs.Prelude.{ℕ, ◌<◌, ◌≤◌, ◌≡◌, refl, Bool, true, false, not, ◌&&◌, ◌||◌, Option, Some, None, List, [], ◌++◌, length, ltb}
use Rattle.std.proofs.Common.{arith, ◌∙◌, length-append, ltb-true, ltb-false, le-ltb}
use Rattle.std.proofs.Math.Bool.{or-true}
use Rattle.std.proofs.lemmas.Bool.{false≢true}
use Rattle.laws.specs.Pick.{pick}
use Rattle.framing.specs.Frame.{told_size, length_of, record_size, no_length, outside_length, too_short, cut_at, wants_more}
use Rattle.framing.specs.laws.FrontLaws.{or_right, length_same}

-- a cut that no more bytes can mend, for the length is there and lies outside
abbrev pub broken : List ℕ → Bool
broken s = not (no_length s) && outside_length s

-- a cut is one of the two, and never both
pub cut_either : (s : List ℕ) → cut_at s ≡ (wants_more s || broken s)
unfolding cut_at
cut_either s = by (no_length s) (outside_length s) (too_short s) where
  by : (a b c : Bool) → (a || b || c) ≡ ((a || (not b && c)) || (not a && b))
  by true b c = refl
  by false true c = refl
  by false false true = refl
  by false false false = refl

pub cut_one : (s : List ℕ) → (wants_more s && broken s) ≡ false
cut_one s = by (no_length s) (outside_length s) (too_short s) where
  by : (a b c : Bool) → ((a || (not b && c)) && (not a && b)) ≡ false
  by true b c = refl
  by false true c = refl
  by false false true = refl
  by false false false = refl

-- by the size that the length tells: more bytes are wanted up to there
abbrev pub short_of : ℕ → Option ℕ → Bool
short_of l None = false
short_of l (Some n) = ltb l n

pub wants_told : (s : List ℕ) → 2 ≤ length s → wants_more s ≡ short_of (length s) (told_size s)
unfolding told_size
wants_told s h = rw (le-ltb (length s) 2 h) (by (outside_length s)) where
  by : (b : Bool) → (not b && too_short s) ≡ short_of (length s) (pick b None (Some (record_size s)))
  by true = refl
  by false = refl

-- no bytes want more
pub none_want : wants_more [] ≡ true
none_want = refl

-- a cut that more bytes may mend is short: the length is not there yet, or the bytes it counts
pub data Wants (s : List ℕ) : Type 0 where
  length_first : length s < 2 → Wants s
  then_body : 2 ≤ length s → outside_length s ≡ false → length s < record_size s → Wants s

pub wants : (s : List ℕ) → wants_more s ≡ true → Wants s
wants s e = by (no_length s) (outside_length s) (too_short s) refl refl refl e where
  by : (a b c : Bool) → no_length s ≡ a → outside_length s ≡ b → too_short s ≡ c → (a || (not b && c)) ≡ true → Wants s
  by true b c n o t e = length_first (ltb-true (length s) 2 n)
  by false true c n o t e = absurd (false≢true e)
  by false false true n o t e = then_body (ltb-false (length s) 2 n) o (ltb-true (length s) (record_size s) t)
  by false false false n o t e = absurd (false≢true e)

-- a length that does not lie outside
pub inside : (s : List ℕ) → outside_length s ≡ false → length_of s ≤ 64
inside s e = ltb-false 64 (length_of s) (or_right (ltb (length_of s) 2) (ltb 64 (length_of s)) e)

pub wants_few : (s : List ℕ) → wants_more s ≡ true → length s ≤ 65
wants_few s e = by (wants s e) where
  by : Wants s → length s ≤ 65
  by (length_first h) = omega arith
  by (then_body h o l) = omega (arith, inside s o)

-- a length outside 2 to 64 stays so, whatever follows
pub broken_append : (s t : List ℕ) → broken s ≡ true → broken (s ++ t) ≡ true
broken_append s t e = by (no_length s) (outside_length s) refl refl e where
  by : (a b : Bool) → no_length s ≡ a → outside_length s ≡ b → (not a && b) ≡ true → broken (s ++ t) ≡ true
  by false true n o e =
      let h = ltb-false (length s) 2 n in
      let l : 2 ≤ length (s ++ t) = omega (arith, length-append s t) in
      rw (le-ltb (length (s ++ t)) 2 l, length_same s t h) o
  by false false n o e = absurd (false≢true e)
  by true b n o e = absurd (false≢true e)

-- either is a cut
pub wants_cut : (s : List ℕ) → wants_more s ≡ true → cut_at s ≡ true
wants_cut s e = cut_either s ∙ rw e

pub broken_cut : (s : List ℕ) → broken s ≡ true → cut_at s ≡ true
broken_cut s e = cut_either s ∙ rw (e, or-true (wants_more s))
