-- Laws of a frame: what leads to each answer, its time and size, and that it looks only at its own bytes.
use Rattle.std.specs.Prelude.{ℕ, ◌<◌, ◌≤◌, ◌^◌, ◌≡◌, refl, Bool, true, false, not, ◌||◌, Some, None, List, ◌++◌, length, get_or, take, drop, leb, eqb}
use Rattle.std.specs.Option.{unwrap_or}
use Rattle.std.proofs.Common.{arith, sym, ap, ◌∙◌, take-append-drop, leb-true, leb-false, eqb-true, ne_eqb, le-leb}
use Rattle.std.proofs.Math.Bool.{or-true}
use Rattle.std.proofs.lemmas.Bool.{eqb-false, lt-leb}
use Rattle.laws.specs.Pick.{pick}
use Rattle.framing.specs.declared.frame.Frame.{Frame}
use Rattle.framing.specs.declared.frame.Frame.TheVariants.{Cut, Bad, Transfer, Reset}
use Rattle.framing.specs.Frame.{length_of, kind_of, time_of, control_of, data_of, rs_of, rw_of, is_transfer, is_reset, unknown_kind, wrong_length, late_time, record_size, cut_at, bad_at, frame_of, size_of, whole_size}
use Rattle.framing.specs.engine.Reading.{Whole}
use Rattle.framing.specs.laws.FrontLaws.{Front, some_front, whole_front, uncut_front, none_cut, cut_size, whole_fits, byte_append, num16_append, num64_append, length_same, front_append, front_take}

-- what is bad, rule by rule
pub kind_bad : (s : List ℕ) → (kind_of s ≡ 1 → ⊥) → (kind_of s ≡ 2 → ⊥) → bad_at s ≡ true
unfolding bad_at
kind_bad s h k = rw (ne_eqb (kind_of s) 1 h, ne_eqb (kind_of s) 2 k)

pub transfer_length_bad : (s : List ℕ) → kind_of s ≡ 1 → (length_of s ≡ 12 → ⊥) → bad_at s ≡ true
unfolding bad_at
transfer_length_bad s k h = rw (k, ne_eqb (length_of s) 12 h)

pub reset_length_bad : (s : List ℕ) → kind_of s ≡ 2 → (length_of s ≡ 10 → ⊥) → bad_at s ≡ true
unfolding bad_at
reset_length_bad s k h = rw (k, ne_eqb (length_of s) 10 h)

pub time_bad : (s : List ℕ) → 2 ^ 48 ≤ time_of s → bad_at s ≡ true
unfolding bad_at
time_bad s h = rw (le-leb (2 ^ 48) (time_of s) h, or-true (unknown_kind s || wrong_length s))

pub control_bad : (s : List ℕ) → kind_of s ≡ 1 → 4 ≤ control_of s → bad_at s ≡ true
unfolding bad_at
control_bad s k h = rw (k, le-leb 4 (control_of s) h, or-true (not (eqb (length_of s) 12) || late_time s))

-- and what is not
pub transfer_good : (s : List ℕ) → kind_of s ≡ 1 → length_of s ≡ 12 → time_of s < 2 ^ 48 → control_of s < 4 → bad_at s ≡ false
unfolding bad_at
transfer_good s k l t h = rw (k, l, lt-leb (2 ^ 48) (time_of s) t, lt-leb 4 (control_of s) h)

pub reset_good : (s : List ℕ) → kind_of s ≡ 2 → length_of s ≡ 10 → time_of s < 2 ^ 48 → bad_at s ≡ false
unfolding bad_at
reset_good s k l t = rw (k, l, lt-leb (2 ^ 48) (time_of s) t)

-- the answer, by the tests that lead to it
pub cut_frame : (s : List ℕ) → cut_at s ≡ true → frame_of s ≡ Cut
unfolding frame_of
cut_frame s e = rw e

pub none_frame : (s : List ℕ) → whole_size s ≡ None → frame_of s ≡ Cut
none_frame s e = cut_frame s (none_cut s e)

module _ {s : List ℕ} {n : ℕ} (f : Front s n) where
  pub bad_frame : bad_at s ≡ true → frame_of s ≡ Bad n
  unfolding frame_of
  bad_frame b = rw (f.uncut, b, f.size)

  pub transfer_frame : kind_of s ≡ 1 → bad_at s ≡ false → frame_of s ≡ Transfer (time_of s) (rs_of s) (rw_of s) (data_of s)
  unfolding frame_of
  transfer_frame k b = rw (f.uncut, b, k)

  pub reset_frame : kind_of s ≡ 2 → bad_at s ≡ false → frame_of s ≡ Reset (time_of s)
  unfolding frame_of
  reset_frame k b = rw (f.uncut, b, k)

-- of a record whose size and kind are known
pub late_transfer : {s : List ℕ} → Whole s 14 1 → 2 ^ 48 ≤ time_of s → frame_of s ≡ Bad 14
late_transfer {s} w h = bad_frame (whole_front w (omega arith) (omega arith)) (time_bad s h)

pub late_reset : {s : List ℕ} → Whole s 12 2 → 2 ^ 48 ≤ time_of s → frame_of s ≡ Bad 12
late_reset {s} w h = bad_frame (whole_front w (omega arith) (omega arith)) (time_bad s h)

pub stray_whole : {s : List ℕ} → Whole s 14 1 → 4 ≤ control_of s → frame_of s ≡ Bad 14
stray_whole {s} w h = bad_frame (whole_front w (omega arith) (omega arith)) (control_bad s w.told h)

pub transfer_whole : {s : List ℕ} → Whole s 14 1 → time_of s < 2 ^ 48 → control_of s < 4 → frame_of s ≡ Transfer (time_of s) (rs_of s) (rw_of s) (data_of s)
transfer_whole {s} w t h =
    transfer_frame (whole_front w (omega arith) (omega arith)) w.told (transfer_good s w.told (omega (arith, w.sized)) t h)

pub reset_whole : {s : List ℕ} → Whole s 12 2 → time_of s < 2 ^ 48 → frame_of s ≡ Reset (time_of s)
reset_whole {s} w t =
    reset_frame (whole_front w (omega arith) (omega arith)) w.told (reset_good s w.told (omega (arith, w.sized)) t)

pub ruleset transfer_laws = (late_transfer, stray_whole, transfer_whole)

pub ruleset reset_laws = (late_reset, reset_whole)

-- how a record of n bytes is told: by its kind and size it is bad, or it has all the bytes of its kind
data Told (s : List ℕ) (n : ℕ) : Type 0 where
  unknown : (kind_of s ≡ 1 → ⊥) → (kind_of s ≡ 2 → ⊥) → Told s n
  no_transfer : kind_of s ≡ 1 → (n ≡ 14 → ⊥) → Told s n
  no_reset : kind_of s ≡ 2 → (n ≡ 12 → ⊥) → Told s n
  transfer : kind_of s ≡ 1 → n ≡ 14 → Told s n
  reset : kind_of s ≡ 2 → n ≡ 12 → Told s n

told : (s : List ℕ) (n : ℕ) → Told s n
told s n = by (is_transfer s) (is_reset s) (eqb n 14) (eqb n 12) refl refl refl refl where
  by : (a b c d : Bool) → is_transfer s ≡ a → is_reset s ≡ b → eqb n 14 ≡ c → eqb n 12 ≡ d → Told s n
  by true b true d e f g h = transfer (eqb-true (kind_of s) 1 e) (eqb-true n 14 g)
  by true b false d e f g h = no_transfer (eqb-true (kind_of s) 1 e) (eqb-false n 14 g)
  by false true c true e f g h = reset (eqb-true (kind_of s) 2 f) (eqb-true n 12 h)
  by false true c false e f g h = no_reset (eqb-true (kind_of s) 2 f) (eqb-false n 12 h)
  by false false c d e f g h = unknown (eqb-false (kind_of s) 1 e) (eqb-false (kind_of s) 2 f)

-- so where it is neither a transfer nor a reset of the right length, it is bad
pub other_frame : {s : List ℕ} {n : ℕ} → Front s n → (kind_of s ≡ 1 → n ≡ 14 → ⊥) → (kind_of s ≡ 2 → n ≡ 12 → ⊥) → frame_of s ≡ Bad n
other_frame {s} {n} f h k = bad_frame f (by (told s n)) where
  by : Told s n → bad_at s ≡ true
  by (unknown i j) = kind_bad s i j
  by (no_transfer i j) = transfer_length_bad s i (λ e. j (omega arith))
  by (no_reset i j) = reset_length_bad s i (λ e. j (omega arith))
  by (transfer i j) = absurd (h i j)
  by (reset i j) = absurd (k i j)

pub ruleset any_laws = (none_frame, some_front, other_frame)

-- a frame, seen with what holds of the bytes that it was read off
pub data Seen (s : List ℕ) : Frame → Type 0 where
  cut : cut_at s ≡ true → Seen s Cut
  bad : {n : ℕ} → Front s n → bad_at s ≡ true → Seen s (Bad n)
  transfer : Front s 14 → kind_of s ≡ 1 → bad_at s ≡ false → time_of s < 2 ^ 48 → Seen s (Transfer (time_of s) (rs_of s) (rw_of s) (data_of s))
  reset : Front s 12 → kind_of s ≡ 2 → bad_at s ≡ false → time_of s < 2 ^ 48 → Seen s (Reset (time_of s))

module _ {s : List ℕ} {n : ℕ} (f : Front s n) where
  seen_bad : bad_at s ≡ true → Seen s (frame_of s)
  seen_bad b = rw (bad_frame f b) (bad f b)

  seen_told : Told s n → Seen s (frame_of s)
  seen_told (unknown h k) = seen_bad (kind_bad s h k)
  seen_told (no_transfer k h) = seen_bad (transfer_length_bad s k (λ e. h (omega arith)))
  seen_told (no_reset k h) = seen_bad (reset_length_bad s k (λ e. h (omega arith)))
  seen_told (transfer k e) = by (late_time s) (leb 4 (control_of s)) refl refl where
    by : (a b : Bool) → late_time s ≡ a → leb 4 (control_of s) ≡ b → Seen s (frame_of s)
    by true b l h = seen_bad (time_bad s (leb-true (2 ^ 48) (time_of s) l))
    by false true l h = seen_bad (control_bad s k (leb-true 4 (control_of s) h))
    by false false l h =
        let t = leb-false (2 ^ 48) (time_of s) l in
        let g = transfer_good s k (omega arith) t (leb-false 4 (control_of s) h) in
        rw (transfer_frame f k g) (transfer (rw e at f) k g t)
  seen_told (reset k e) = by (late_time s) refl where
    by : (a : Bool) → late_time s ≡ a → Seen s (frame_of s)
    by true l = seen_bad (time_bad s (leb-true (2 ^ 48) (time_of s) l))
    by false l =
        let t = leb-false (2 ^ 48) (time_of s) l in
        let g = reset_good s k (omega arith) t in
        rw (reset_frame f k g) (reset (rw e at f) k g t)

pub seen : (s : List ℕ) → Seen s (frame_of s)
seen s = by (cut_at s) refl where
  by : (b : Bool) → cut_at s ≡ b → Seen s (frame_of s)
  by true u = rw (cut_frame s u) (cut u)
  by false u = seen_told (uncut_front s u) (told s (record_size s))

-- times are below 2^48
abbrev time_in : Frame → ℕ
time_in Cut = 0
time_in (Bad n) = 0
time_in (Transfer t rs reads d) = t
time_in (Reset t) = t

frame_time : (s : List ℕ) → time_in (frame_of s) < 2 ^ 48
frame_time s = by (frame_of s) (seen s) where
  by : (f : Frame) → Seen s f → time_in f < 2 ^ 48
  by f (cut u) = omega arith
  by f (bad g b) = omega arith
  by f (transfer g k b h) = h
  by f (reset g k b h) = h

pub transfer_time : (s : List ℕ) (t : ℕ) (rs reads : Bool) (d : ℕ) → frame_of s ≡ Transfer t rs reads d → t < 2 ^ 48
transfer_time s t rs reads d e = rw e at (frame_time s)

pub reset_time : (s : List ℕ) (t : ℕ) → frame_of s ≡ Reset t → t < 2 ^ 48
reset_time s t e = rw e at (frame_time s)

-- a frame's size is read off the lengths alone
pub size_whole : (s : List ℕ) → size_of (frame_of s) ≡ unwrap_or (whole_size s) 0
unfolding whole_size
size_whole s = by (frame_of s) (seen s) where
  by : (f : Frame) → Seen s f → size_of f ≡ unwrap_or (pick (cut_at s) None (Some (record_size s))) 0
  by f (cut u) = rw u
  by f (bad g b) = rw (g.uncut, g.size)
  by f (transfer g k b h) = rw g.uncut g.size
  by f (reset g k b h) = rw g.uncut g.size

pub size_record : (s : List ℕ) → cut_at s ≡ false → size_of (frame_of s) ≡ record_size s
unfolding whole_size
size_record s u = size_whole s ∙ ap (λ b. unwrap_or (pick b None (Some (record_size s))) 0) u

-- it lies within the bytes that are there
pub size_within : (s : List ℕ) → size_of (frame_of s) ≤ length s
size_within s = rw (size_whole s) (whole_fits s)

-- it is 0 for a cut alone
pub size_cut : (s : List ℕ) → size_of (frame_of s) ≡ 0 → frame_of s ≡ Cut
size_cut s e = cut_frame s (cut_size s (sym (size_whole s) ∙ e))

pub frame_cut : (s : List ℕ) → frame_of s ≡ Cut → cut_at s ≡ true
frame_cut s e = cut_size s (sym (size_whole s) ∙ ap size_of e)

-- any other frame is a record of its size
abbrev pub IsRecord : Frame → Type 0
IsRecord Cut = ⊥
IsRecord (Bad n) = Unit {0}
IsRecord (Transfer t rs reads d) = Unit {0}
IsRecord (Reset t) = Unit {0}

pub frame_front : (s : List ℕ) {f : Frame} → frame_of s ≡ f → IsRecord f → Front s (size_of f)
frame_front s e = rw e at (by (frame_of s) (seen s)) where
  by : (f : Frame) → Seen s f → IsRecord f → Front s (size_of f)
  by f (cut u) h = absurd h
  by f (bad g b) h = g
  by f (transfer g k b t) h = g
  by f (reset g k b t) h = g

-- which lies within 4 to 66, and within the bytes that are there
pub record Fits (s : List ℕ) (n : ℕ) : Type 0 where
  pub least : 4 ≤ n
  pub most : n ≤ 66
  pub there : n ≤ length s

pub size_fits : {s : List ℕ} {n : ℕ} → Front s n → Fits s n
size_fits f = record { least = omega arith; most = omega arith; there = f.fits }

-- a frame looks only at its own bytes
module _ {s : List ℕ} {n : ℕ} (t : List ℕ) (f : Front s n) where
  kind_same : kind_of (s ++ t) ≡ kind_of s
  kind_same = num16_append s t 2 (omega arith)

  size_same : length_of (s ++ t) ≡ length_of s
  size_same = length_same s t (omega arith)

  time_same : 12 ≤ n → time_of (s ++ t) ≡ time_of s
  time_same h = num64_append s t 4 (omega arith)

  byte_same : (i : ℕ) → i < n → get_or (s ++ t) i 0 ≡ get_or s i 0
  byte_same i h = byte_append s t i (omega arith)

  both_bad : bad_at (s ++ t) ≡ true → bad_at s ≡ true → frame_of (s ++ t) ≡ frame_of s
  both_bad a b = bad_frame (front_append t f) a ∙ sym (bad_frame f b)

  append_told : Told s n → frame_of (s ++ t) ≡ frame_of s
  unfolding frame_of bad_at
  append_told (unknown h k) = both_bad (kind_bad (s ++ t) (rw kind_same h) (rw kind_same k)) (kind_bad s h k)
  append_told (no_transfer k h) =
      both_bad (transfer_length_bad (s ++ t) (kind_same ∙ k) (rw size_same (λ e. h (omega arith))))
      (transfer_length_bad s k (λ e. h (omega arith)))
  append_told (no_reset k h) =
      both_bad (reset_length_bad (s ++ t) (kind_same ∙ k) (rw size_same (λ e. h (omega arith))))
      (reset_length_bad s k (λ e. h (omega arith)))
  append_told (transfer k e) =
      rw ((front_append t f).uncut, f.uncut, kind_same, size_same, time_same (omega arith), byte_same 12 (omega arith), byte_same 13 (omega arith))
  append_told (reset k e) =
      rw ((front_append t f).uncut, f.uncut, kind_same, k, size_same, time_same (omega arith))

pub frame_append : (s t : List ℕ) → cut_at s ≡ false → frame_of (s ++ t) ≡ frame_of s
frame_append s t u = append_told t (uncut_front s u) (told s (record_size s))

pub frame_take : {s : List ℕ} {n : ℕ} → Front s n → frame_of (take n s) ≡ frame_of s
frame_take {s} {n} f = sym (frame_append (take n s) (drop n s) (front_take f).uncut) ∙ ap frame_of (take-append-drop n s)
