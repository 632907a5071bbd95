-- The answers of a log are those of a run over it.
use Rattle.std.specs.Prelude.{ℕ, ◌≡◌, refl, true, List, [], ◌∷◌, replicate}
use Rattle.std.proofs.Common.{sym, ap, ◌∙◌}
use Rattle.framing.specs.Frames.{frames}
use Rattle.mirror.specs.Answer.{count_places}
use Rattle.mirror.specs.Panel.{sound_panel}
use Rattle.mirror.specs.Answers.{Proper}
use Rattle.mirror.specs.laws.TableLaws.{answered_row}
use Rattle.mirror.specs.Run.{tallied, started, advanced, onward}
use Rattle.mirror.specs.Stream.{run_as, run_of}
use Rattle.mirror.specs.declared.panel.Panel.{Panel}
use Rattle.mirror.specs.declared.record.Recorded.{Recorded}
use Rattle.mirror.specs.declared.totals.Totals.{Totals}
use Rattle.striking.specs.Machine.{run, final}
use Rattle.demands.specs.Mirrors.{ours, machine_of}
use Rattle.demands.specs.Answers.{counts_of, OfRun}
use Rattle.demands.proofs.laws.EngineLaws.{engine, same_answers, same_panel}

-- a run's records one after another are the answers
pub onward_panel : (t : Totals) (fs : List (List ℕ)) → (onward t fs).panel ≡ final (machine_of engine) t.panel fs
unfolding onward
onward_panel t [] = refl
onward_panel t (f ∷ fs) =
    onward_panel (advanced t f) fs ∙ ap (λ (r : Recorded). final (machine_of engine) r.panel fs) (sym (answered_row t.panel f))

onward_counts : (t : Totals) (fs : List (List ℕ)) → (onward t fs).counts ≡ counts_of t.counts (run (machine_of engine) t.panel fs)
unfolding onward
onward_counts t [] = refl
onward_counts t (f ∷ fs) =
    onward_counts (advanced t f) fs
    ∙ ap (λ (r : Recorded). counts_of (tallied t.counts r.answer) (run (machine_of engine) r.panel fs)) (sym (answered_row t.panel f))

-- a run's panel and counts are those of the answers
pub of_engine : (p : Panel) (log : List ℕ) → sound_panel p ≡ true → OfRun engine p log
unfolding run_of
of_engine p log e =
    record {
      panel = ap (λ b. (run_as b p log).panel) e ∙ onward_panel (started p) (frames log);
      counts = ap (λ b. (run_as b p log).counts) e ∙ onward_counts (started p) (frames log);
    }

pub of_run : (p : Panel) (log : List ℕ) → Proper p log → OfRun ours p log
of_run p log h =
    let e = of_engine p log h.sound in
    record { panel = e.panel ∙ same_panel p log h; counts = e.counts ∙ ap (counts_of (replicate count_places 0)) (same_answers p log h) }
