-- A record uses no more bytes than there are.
use Rattle.std.specs.Prelude.{◌≡◌, ℕ, ◌≤◌, Bool, true, false, not, ◌||◌, List, length, ◌==◌, refl}
use Rattle.std.proofs.Common.{arith}
use Rattle.laws.specs.Pick.{pick}
use Rattle.framing.specs.Frame.{cut_at, bad_at, is_reset, record_size}
use Rattle.framing.specs.laws.FrontLaws.{uncut_front}
use Rattle.mirror.specs.Panel.{sound_panel}
use Rattle.mirror.specs.Table.{is_back, transfer_for, used_for}
use Rattle.mirror.specs.Promise.{Records}
use Rattle.mirror.specs.declared.panel.Panel.{Panel}
use Rattle.mirror.specs.declared.record.Recorded.{Recorded}

module _ (log : List ℕ) where
  some_or_none : (b : Bool) (n : ℕ) → pick b 0 n ≤ n
  some_or_none true n = omega arith
  some_or_none false n = omega arith

  by_tests : (unsound cut : Bool) (rest : ℕ) → cut_at log ≡ cut → used_for (pick unsound 10 (pick cut 8 rest)) log ≤ length log
  by_tests true cut rest e = omega arith
  by_tests false true rest e = omega arith
  by_tests false false rest e =
      omega (arith, some_or_none (rest == 8 || rest == 10) (record_size log), (uncut_front log e).fits)

  pub used_within : (p : Panel) (r : Recorded) → Records p log r → r.used ≤ length log
  used_within p r R =
      rw R.tabled.used
      (by_tests (not (sound_panel p)) (cut_at log) (pick (bad_at log) 6 (pick (is_back p log) 5 (pick (is_reset log) 0 (transfer_for p log)))) refl)
