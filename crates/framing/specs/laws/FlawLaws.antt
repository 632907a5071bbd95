-- Laws of what is wrong with a record: which way it is told, and that a whole record is bad exactly where something is.
use Rattle.std.specs.Prelude.{ℕ, ◌<◌, ◌≤◌, ◌^◌, ◌≡◌, refl, Bool, true, false, ◌||◌, Some, None, List}
use Rattle.std.specs.Option.{is_some}
use borrow.Author.Tests.{ne_eqb, le-leb, lt-leb}
use Rattle.laws.specs.Pick.{pick}
use Rattle.framing.specs.Frame.{length_of, kind_of, time_of, control_of, cut_at, unknown_kind, wrong_length, late_time, stray_control, bad_at, whole_size}
use Rattle.framing.specs.Flaw.{flaw_of}
use Rattle.framing.specs.laws.FrontLaws.{none_cut, some_front}
use Rattle.framing.specs.declared.flaw.Flaw.TheVariants.{Kind, Length, LateTime, StrayControl}

module _ (s : List ℕ) where
  pub none_flaw : whole_size s ≡ None → flaw_of s ≡ None
  unfolding flaw_of
  none_flaw e = rw (none_cut s e)

  pub cut_flaw : cut_at s ≡ true → flaw_of s ≡ None
  unfolding flaw_of
  cut_flaw u = rw u

  pub kind_flaw : cut_at s ≡ false → (kind_of s ≡ 1 → ⊥) → (kind_of s ≡ 2 → ⊥) → flaw_of s ≡ Some (Kind (kind_of s))
  unfolding flaw_of
  kind_flaw u h k = rw (u, ne_eqb (kind_of s) 1 h, ne_eqb (kind_of s) 2 k)

  pub transfer_length_flaw : cut_at s ≡ false → kind_of s ≡ 1 → (length_of s ≡ 12 → ⊥) → flaw_of s ≡ Some (Length (length_of s))
  unfolding flaw_of
  transfer_length_flaw u k h = rw (u, k, ne_eqb (length_of s) 12 h)

  pub reset_length_flaw : cut_at s ≡ false → kind_of s ≡ 2 → (length_of s ≡ 10 → ⊥) → flaw_of s ≡ Some (Length (length_of s))
  unfolding flaw_of
  reset_length_flaw u k h = rw (u, k, ne_eqb (length_of s) 10 h)

  pub transfer_time_flaw : cut_at s ≡ false → kind_of s ≡ 1 → length_of s ≡ 12 → 2 ^ 48 ≤ time_of s → flaw_of s ≡ Some LateTime
  unfolding flaw_of
  transfer_time_flaw u k l h = rw (u, k, l, le-leb (2 ^ 48) (time_of s) h)

  pub reset_time_flaw : cut_at s ≡ false → kind_of s ≡ 2 → length_of s ≡ 10 → 2 ^ 48 ≤ time_of s → flaw_of s ≡ Some LateTime
  unfolding flaw_of
  reset_time_flaw u k l h = rw (u, k, l, le-leb (2 ^ 48) (time_of s) h)

  pub control_flaw : cut_at s ≡ false → kind_of s ≡ 1 → length_of s ≡ 12 → time_of s < 2 ^ 48 → 4 ≤ control_of s → flaw_of s ≡ Some StrayControl
  unfolding flaw_of
  control_flaw u k l t h = rw (u, k, l, lt-leb (2 ^ 48) (time_of s) t, le-leb 4 (control_of s) h)

  pub transfer_no_flaw : cut_at s ≡ false → kind_of s ≡ 1 → length_of s ≡ 12 → time_of s < 2 ^ 48 → control_of s < 4 → flaw_of s ≡ None
  unfolding flaw_of
  transfer_no_flaw u k l t h = rw (u, k, l, lt-leb (2 ^ 48) (time_of s) t, lt-leb 4 (control_of s) h)

  pub reset_no_flaw : cut_at s ≡ false → kind_of s ≡ 2 → length_of s ≡ 10 → time_of s < 2 ^ 48 → flaw_of s ≡ None
  unfolding flaw_of
  reset_no_flaw u k l t = rw (u, k, l, lt-leb (2 ^ 48) (time_of s) t)

pub ruleset flaw_laws = (some_front, none_flaw, kind_flaw, transfer_length_flaw, reset_length_flaw, transfer_time_flaw, reset_time_flaw, control_flaw, transfer_no_flaw, reset_no_flaw)

-- of a whole record: bad exactly where something is wrong
pub flaw_bad : (s : List ℕ) → cut_at s ≡ false → is_some (flaw_of s) ≡ bad_at s
unfolding flaw_of bad_at
flaw_bad s u = rw u (by (unknown_kind s) (wrong_length s) (late_time s) (stray_control s)) where
  by : (a b c d : Bool) →
      is_some (pick a (Some (Kind (kind_of s))) (pick b (Some (Length (length_of s))) (pick c (Some LateTime) (pick d (Some StrayControl) None)))) ≡ (a || b || c || d)
  by true b c d = refl
  by false true c d = refl
  by false false true d = refl
  by false false false true = refl
  by false false false false = refl
