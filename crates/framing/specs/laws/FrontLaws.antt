-- Laws of the record at the front: its size, off the lengths alone, and what lies within it.
use Rattle.std.specs.Prelude.{ℕ, ◌+◌, ◌<◌, ◌≤◌, ◌≡◌, refl, Bool, true, false, ◌||◌, Option, Some, None, List, ◌++◌, length, get_or, take, drop, ltb, leb}
use Rattle.std.specs.Option.{unwrap_or}
use Rattle.std.proofs.Common.{arith, sym, ap, ◌∙◌, length-append, take-append-drop, length-take-le, leb-true, leb-false, ltb-false, lt-ltb, le-ltb}
use Rattle.std.proofs.lemmas.Option.{none-some}
use Rattle.std.proofs.Math.Bool.{or-true}
use Rattle.std.proofs.lemmas.Bool.{false≢true}
use Rattle.std.proofs.Math.ListN.{get_or-append}
use Rattle.laws.specs.Pick.{pick}
use Rattle.framing.specs.Frame.{num16, num64, length_of, record_size, no_length, outside_length, too_short, cut_at, told_size, whole_size}
use Rattle.framing.specs.engine.Reading.{Whole}

-- a record of n bytes stands at the front: its length lies within 2 to 64, and its bytes are there
pub record Front (s : List ℕ) (n : ℕ) : Type 0 where
  pub uncut : cut_at s ≡ false
  pub size : n ≡ record_size s
  pub least : 2 ≤ length_of s
  pub most : length_of s ≤ 64
  pub fits : n ≤ length s

pub or_left : (a b : Bool) → (a || b) ≡ false → a ≡ false
or_left false b e = refl
or_left true b e = e

pub or_right : (a b : Bool) → (a || b) ≡ false → b ≡ false
or_right false b e = e
or_right true b e = absurd (false≢true (sym e))

pub uncut_front : (s : List ℕ) → cut_at s ≡ false → Front s (record_size s)
unfolding cut_at
uncut_front s u =
    let o = or_left (no_length s || outside_length s) (too_short s) u in
    let i = or_right (no_length s) (outside_length s) o in
    record {
      uncut = u;
      size = refl;
      least = ltb-false (length_of s) 2 (or_left (ltb (length_of s) 2) (ltb 64 (length_of s)) i);
      most = ltb-false 64 (length_of s) (or_right (ltb (length_of s) 2) (ltb 64 (length_of s)) i);
      fits = ltb-false (length s) (record_size s) (or_right (no_length s || outside_length s) (too_short s) u);
    }

-- a record whose size and kind are known, of a size that a record can have
pub whole_front : {s : List ℕ} {n k : ℕ} → Whole s n k → 4 ≤ n → n ≤ 66 → Front s n
unfolding cut_at
whole_front {s} {n} {k} w l m =
    record {
      uncut = rw (le-ltb (length s) 2 (omega (arith, w.fits)), le-ltb (length_of s) 2 (omega (arith, w.sized)), le-ltb 64 (length_of s) (omega (arith, w.sized)), le-ltb (length s) (record_size s) (omega (arith, w.sized, w.fits)));
      size = sym w.sized;
      least = omega (arith, w.sized);
      most = omega (arith, w.sized);
      fits = w.fits;
    }

-- the size that the length tells, where it is there and where it lies inside
pub told_none : (s : List ℕ) → length s < 2 → told_size s ≡ None
unfolding told_size
told_none s h = rw (lt-ltb (length s) 2 h)

pub told_low : (s : List ℕ) → length_of s < 2 → told_size s ≡ None
unfolding told_size
told_low s h = rw (lt-ltb (length_of s) 2 h, or-true (no_length s))

pub told_high : (s : List ℕ) → 64 < length_of s → told_size s ≡ None
unfolding told_size
told_high s h = rw (lt-ltb 64 (length_of s) h, or-true (ltb (length_of s) 2), or-true (no_length s))

pub told_size_lem : (s : List ℕ) → 2 ≤ length s → 2 ≤ length_of s → length_of s ≤ 64 → told_size s ≡ Some (record_size s)
unfolding told_size
told_size_lem s h l m = rw (le-ltb (length s) 2 h, le-ltb (length_of s) 2 l, le-ltb 64 (length_of s) m)

pub ruleset told_laws = (told_none, told_low, told_high, told_size_lem)

-- a size, where that many bytes are there
abbrev pub fits_in : ℕ → Option ℕ → Option ℕ
fits_in l None = None
fits_in l (Some n) = pick (leb n l) (Some n) None

-- the size in hand, by the size that the length tells: none where there are fewer bytes
pub whole_told : (s : List ℕ) → whole_size s ≡ fits_in (length s) (told_size s)
unfolding whole_size told_size cut_at
whole_told s = by (no_length s || outside_length s) (length s) (record_size s) where
  by : (a : Bool) (l n : ℕ) → pick (a || ltb l n) None (Some n) ≡ fits_in l (pick a None (Some n))
  by true l n = refl
  by false l n = less (leb n l) refl where
    less : (b : Bool) → leb n l ≡ b → pick (ltb l n) None (Some n) ≡ pick b (Some n) None
    less true e = rw (le-ltb l n (leb-true n l e)) refl
    less false e = rw (lt-ltb l n (leb-false n l e)) refl

-- no size in hand is a cut, and any other is the record's
pub none_cut : (s : List ℕ) → whole_size s ≡ None → cut_at s ≡ true
unfolding whole_size
none_cut s e = by (cut_at s) e where
  by : (b : Bool) → pick b None (Some (record_size s)) ≡ None → b ≡ true
  by true e = refl
  by false e = absurd (none-some (record_size s) (sym e))

pub some_front : (s : List ℕ) (n : ℕ) → whole_size s ≡ Some n → Front s n
unfolding whole_size
some_front s n e = by (cut_at s) refl e where
  by : (b : Bool) → cut_at s ≡ b → pick b None (Some (record_size s)) ≡ Some n → Front s n
  by true u e = absurd (none-some n e)
  by false u e = rw (ap (λ o. unwrap_or o 0) e) at (uncut_front s u)

pub cut_size : (s : List ℕ) → unwrap_or (whole_size s) 0 ≡ 0 → cut_at s ≡ true
cut_size s e = by (whole_size s) refl e where
  by : (w : Option ℕ) → whole_size s ≡ w → unwrap_or w 0 ≡ 0 → cut_at s ≡ true
  by None w e = none_cut s w
  by (Some n) w e = absurd (omega (arith, (some_front s n w).size, e))

pub front : (s : List ℕ) (n : ℕ) → n ≡ unwrap_or (whole_size s) 0 → (n ≡ 0 → ⊥) → Front s n
front s n e h = by (whole_size s) refl e where
  by : (w : Option ℕ) → whole_size s ≡ w → n ≡ unwrap_or w 0 → Front s n
  by None w e = absurd (h e)
  by (Some m) w e = rw e (some_front s m w)

pub whole_fits : (s : List ℕ) → unwrap_or (whole_size s) 0 ≤ length s
whole_fits s = by (whole_size s) refl where
  by : (w : Option ℕ) → whole_size s ≡ w → unwrap_or w 0 ≤ length s
  by None w = omega arith
  by (Some n) w = (some_front s n w).fits

-- what is within a slice reads the same whatever follows it
pub byte_append : (s t : List ℕ) (i : ℕ) → i < length s → get_or (s ++ t) i 0 ≡ get_or s i 0
byte_append s t i h = get_or-append s t 0 i h

pub num16_append : (s t : List ℕ) (at : ℕ) → at + 2 ≤ length s → num16 (s ++ t) at ≡ num16 s at
unfolding num16
num16_append s t at h =
    let a : at < length s = omega arith in
    let b : at + 1 < length s = omega arith in
    rw (byte_append s t at a, byte_append s t (at + 1) b)

pub num64_append : (s t : List ℕ) (at : ℕ) → at + 8 ≤ length s → num64 (s ++ t) at ≡ num64 s at
unfolding num64
num64_append s t at h =
    let a : at + 2 ≤ length s = omega arith in
    let b : at + 2 + 2 ≤ length s = omega arith in
    let c : at + 4 + 2 ≤ length s = omega arith in
    let d : at + 6 + 2 ≤ length s = omega arith in
    rw (num16_append s t at a, num16_append s t (at + 2) b, num16_append s t (at + 4) c, num16_append s t (at + 6) d)

pub length_same : (s t : List ℕ) → 2 ≤ length s → length_of (s ++ t) ≡ length_of s
length_same s t h = num16_append s t 0 h

-- a record stays one, whatever follows it
uncut : (s : List ℕ) → 2 ≤ length_of s → length_of s ≤ 64 → record_size s ≤ length s → cut_at s ≡ false
unfolding cut_at
uncut s a b c =
    let d : 2 ≤ length s = omega arith in
    rw (le-ltb (length s) 2 d, le-ltb (length_of s) 2 a, le-ltb 64 (length_of s) b, le-ltb (length s) (record_size s) c)

pub front_append : {s : List ℕ} {n : ℕ} (t : List ℕ) → Front s n → Front (s ++ t) n
front_append {s} {n} t f =
    let l = length_same s t (omega arith) in
    let c : n ≤ length (s ++ t) = omega (arith, length-append s t) in
    record {
      uncut = uncut (s ++ t) (rw l f.least) (rw l f.most) (omega arith);
      size = rw l f.size;
      least = rw l f.least;
      most = rw l f.most;
      fits = c;
    }

-- and its own bytes are enough
pub front_take : {s : List ℕ} {n : ℕ} → Front s n → Front (take n s) n
front_take {s} {n} f =
    let w = length-take-le n s f.fits in
    let e : length_of (take n s) ≡ length_of s =
    sym (length_same (take n s) (drop n s) (omega arith)) ∙ ap length_of (take-append-drop n s) in
    record {
      uncut = uncut (take n s) (rw e f.least) (rw e f.most) (omega arith);
      size = rw e f.size;
      least = rw e f.least;
      most = rw e f.most;
      fits = omega arith;
    }
