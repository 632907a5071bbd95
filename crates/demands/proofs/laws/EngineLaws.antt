-- What the engine makes of a record is what the table says, record after record: so what is proved of the one holds of the other.
use Rattle.std.specs.Prelude.{ℕ, ◌≡◌, refl, true, List, [], ◌∷◌}
use Rattle.std.proofs.Common.{ap, ◌∙◌}
use Rattle.framing.specs.Frame.{frame_of}
use Rattle.framing.specs.Frames.{frames}
use Rattle.mirror.specs.Panel.{sound_panel}
use Rattle.mirror.specs.engine.Record.{answered}
use Rattle.mirror.specs.laws.TableLaws.{answered_sound}
use Rattle.mirror.specs.laws.SoundParts.{whole}
use Rattle.mirror.specs.laws.SoundLaws.{Lasts, record_lasts}
use Rattle.mirror.specs.Answers.{Proper, panel_after}
use Rattle.mirror.specs.laws.TypedLaws.{AllData, frames_data, proper_lasts}
use Rattle.mirror.specs.declared.panel.Panel.{Panel}
use Rattle.striking.specs.Machine.{Out, run, final}
use Rattle.striking.specs.Machine as machine
use Rattle.demands.specs.Mirrors.{Response, Mirror, out_of, ours, machine_of}
use Rattle.demands.specs.Answers.{answers_by, panel_by}

-- the engine, which the proofs go through
abbrev pub engine : Mirror
engine p bytes = out_of (answered (frame_of bytes) p)

pub same_step : (p : Panel) (bytes : List ℕ) → sound_panel p ≡ true → engine p bytes ≡ ours p bytes
same_step p bytes e = ap out_of (answered_sound p bytes e)

-- from a panel that stays sound, records of bytes
pub same_run : (fs : List (List ℕ)) (p : Panel) → Lasts p → AllData fs → run (machine_of engine) p fs ≡ run (machine_of ours) p fs
same_run [] p l d = refl
same_run (f ∷ fs) p l d =
    ap (λ (o : Out Panel Response). machine.answered f o.answer ∷ run (machine_of engine) o.state fs) (same_step p f (whole p l.sound))
    ∙ ap (λ rest. machine.answered f (ours p f).answer ∷ rest) (same_run fs (panel_after p f) (record_lasts p f d.0 l) d.1)

pub same_final : (fs : List (List ℕ)) (p : Panel) → Lasts p → AllData fs → final (machine_of engine) p fs ≡ final (machine_of ours) p fs
same_final [] p l d = refl
same_final (f ∷ fs) p l d =
    ap (λ (o : Out Panel Response). final (machine_of engine) o.state fs) (same_step p f (whole p l.sound))
    ∙ same_final fs (panel_after p f) (record_lasts p f d.0 l) d.1

-- so for a log
pub same_answers : (p : Panel) (log : List ℕ) → Proper p log → answers_by engine p log ≡ answers_by ours p log
same_answers p log h = same_run (frames log) p (proper_lasts h) (frames_data log h.bytes)

pub same_panel : (p : Panel) (log : List ℕ) → Proper p log → panel_by engine p log ≡ panel_by ours p log
same_panel p log h = same_final (frames log) p (proper_lasts h) (frames_data log h.bytes)
