-- A panel of an unknown chip, and one whose bits disagree with its memory, are not sound, and so refused by every call.
use Rattle.std.specs.Prelude.{ℕ, ◌≡◌, refl, Bool, true, false, List}
use Rattle.std.proofs.Common.{sym}
use Rattle.std.proofs.Math.Path.{ap}
use Rattle.chip.specs.Sizes.{is_known}
use Rattle.mirror.specs.Answer.{paper}
use Rattle.mirror.specs.Panel.{sound_panel}
use Rattle.mirror.specs.Stream.{is_refused, start_as, run_as, run_of}
use Rattle.mirror.specs.Promise.{summed}
use Rattle.mirror.specs.laws.TableLaws.{refused_unsound}
use Rattle.mirror.specs.laws.StreamLaws.{feed_run}
use Rattle.mirror.specs.laws.NextLaws.{next_refused}
use Rattle.mirror.specs.laws.WrittenLaws.{written_places}
use Rattle.mirror.specs.declared.panel.Panel.{Panel}
use Rattle.mirror.specs.declared.record.Recorded.{Recorded}
use Rattle.mirror.specs.declared.stream.Run.{Run}
use Rattle.demands.specs.Unknown.{RefusedCalls, UnknownRefused, DisagreeingRefused}

-- a panel that is not sound is refused by every call but the comparison, which is told a chip alone
module _ (p : Panel) (e : sound_panel p ≡ false) where
  refused_run : (log : List ℕ) → run_of p log ≡ run_as false p log
  unfolding run_of
  refused_run log = ap (λ b. run_as b p log) e

  refused_start : start_as (sound_panel p) p ≡ start_as false p
  refused_start = ap (λ b. start_as b p) e

unknown_unsound : (p : Panel) → is_known p.sheet.registers.chip ≡ false → sound_panel p ≡ false
unknown_unsound p k = rw k

unsound_refused : (p : Panel) → sound_panel p ≡ false → RefusedCalls p
unsound_refused p e =
    record {
      answered = λ log. ap (λ (r : Recorded). paper r.answer r.byte) (refused_unsound p log e);
      unused = λ log. ap (λ (r : Recorded). r.used) (refused_unsound p log e);
      kept = λ log. ap (λ (r : Recorded). r.panel) (refused_unsound p log e);
      runs = λ log. ap summed (refused_run p e log);
      left = λ log. ap (λ (r : Run). r.panel) (refused_run p e log);
      fed = feed_run p;
      nexts = λ part. sym (next_refused (start_as (sound_panel p) p) part (ap is_refused (refused_start p e)));
      paints = λ font dark frame. rw e;
      frames = λ font dark frame. rw e;
      places = rw e;
    }

pub unknown_refused : UnknownRefused
unknown_refused p k = record { calls = unsound_refused p (unknown_unsound p k); compares = λ a b. rw k }

pub disagreeing_refused : DisagreeingRefused
disagreeing_refused p a l d = by (sound_panel p) refl
  where
    by : (b : Bool) → sound_panel p ≡ b → RefusedCalls p
    by true e = absurd (d ((written_places.bits p e).exactly a l))
    by false e = unsound_refused p e
