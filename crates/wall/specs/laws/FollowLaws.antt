-- The record that ends the watch is the one that its own time tells.
use Rattle.std.specs.Prelude.{ℕ, ◌≡◌, refl, Bool, true, false, not, ◌&&◌, List, leb, ltb}
use Rattle.std.proofs.Common.{sym, ap, ◌∙◌, le-leb, ltb-true, ltb-false}
use Rattle.std.proofs.lemmas.Bool.{lt-leb}
use Rattle.laws.specs.Pick.{pick}
use Rattle.framing.specs.Frame.{frame_of}
use Rattle.framing.specs.declared.frame.Frame.{Frame}
use Rattle.framing.specs.declared.frame.Frame.TheVariants as frame
use Rattle.chip.specs.Sheet.{fresh_sheet}
use Rattle.mirror.specs.Answer.{number_of}
use Rattle.mirror.specs.Answers.{clocked}
use Rattle.mirror.specs.Words.{free, is_good, done, joined_of}
use Rattle.mirror.specs.engine.Record.{recorded, read_as, went, transferred, answered}
use Rattle.mirror.specs.engine.Way.{Way, way_of}
use Rattle.mirror.specs.laws.TableLaws.{answered_row}
use Rattle.mirror.specs.declared.answer.Answer.TheVariants as say
use Rattle.mirror.specs.declared.panel.Panel.{Panel}
use Rattle.mirror.specs.declared.record.Recorded.{Recorded}
use Rattle.wall.specs.Watch.{later_than}
use Rattle.wall.specs.engine.Watch.{later_by}

abbrev ends_by : ℕ → Recorded → Bool
ends_by until r = clocked (number_of r.answer) && ltb until r.panel.last

read_clocked : (good x : Bool) → (clocked (number_of (read_as good)) && x) ≡ x
read_clocked true x = refl
read_clocked false x = refl

-- whatever way a transfer goes, it sets the clock to its time
way_ends : (w : Way) (until time : ℕ) (rs reads : Bool) (bus byte : ℕ) (p : Panel) → ends_by until (went w time rs reads bus byte p) ≡ ltb until time
way_ends Way.Torn until time rs reads bus byte p = refl
way_ends Way.Ignored until time rs reads bus byte p = refl
way_ends Way.Missed until time rs reads bus byte p = refl
way_ends Way.Nothing until time rs reads bus byte p = refl
way_ends Way.HoldStatus until time rs reads bus byte p = refl
way_ends Way.HoldRead until time rs reads bus byte p = refl
way_ends Way.HoldWrite until time rs reads bus byte p = refl
way_ends Way.Status until time rs reads bus byte p = refl
way_ends Way.StatusEnd until time rs reads bus byte p = refl
way_ends Way.Read until time rs reads bus byte p = read_clocked (is_good p) (ltb until time)
way_ends Way.ReadEnd until time rs reads bus byte p = read_clocked (is_good p) (ltb until time)
way_ends Way.Write until time rs reads bus byte p = refl
way_ends Way.Obey until time rs reads bus byte p = refl

-- a record that is back does not end it, one that is not does where it is later
back_or_later : (b : Bool) (until : ℕ) (back r : Recorded) (later : Bool) → ends_by until back ≡ false → ends_by until r ≡ later → (not b && later) ≡ ends_by until (pick b back r)
back_or_later true until back r later e f = sym e
back_or_later false until back r later e f = sym f

not_back : (last time : ℕ) → leb last time ≡ not (ltb time last)
not_back last time = by (ltb time last) refl where
  by : (b : Bool) → ltb time last ≡ b → leb last time ≡ not b
  by true e = lt-leb last time (ltb-true time last e)
  by false e = le-leb last time (ltb-false time last e)

by_frame : (until : ℕ) (p : Panel) (f : Frame) → later_by until p.last f ≡ ends_by until (answered f p)
unfolding transferred
by_frame until p frame.Cut = refl
by_frame until p (frame.Bad n) = refl
by_frame until p (frame.Transfer time rs reads bus) =
    let eight = p.sheet.registers.eight in
    let byte = joined_of eight p.half bus in
    ap (λ b. b && ltb until time) (not_back p.last time)
    ∙ back_or_later (ltb time p.last) until (recorded p say.Back 0 14) (transferred time rs reads bus p) (ltb until time) refl (way_ends (way_of eight p.half (free time p) rs reads byte) until time rs reads bus byte p)
by_frame until p (frame.Reset time) =
    ap (λ b. b && ltb until time) (not_back p.last time)
    ∙ back_or_later (ltb time p.last) until (recorded p say.Back 0 12)
    (recorded (done time (fresh_sheet p.sheet.registers.chip) p.times.reset p) say.Taken 0 12) (ltb until time) refl refl

pub later_told : (until : ℕ) (p : Panel) (log : List ℕ) → later_by until p.last (frame_of log) ≡ later_than until p log
later_told until p log = by_frame until p (frame_of log) ∙ ap (ends_by until) (answered_row p log)
