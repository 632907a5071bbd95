-- Our mirror keeps the busy rule and the steps.
use Rattle.std.specs.Prelude.{ℕ, ◌+◌, ◌≤◌, ◌≡◌, refl, Bool, true, false, not, ◌&&◌, ◌||◌, List, [], ltb, leb, eqb}
use Rattle.std.proofs.Common.{sym, ap, ◌∙◌, subst, le-ltb, eqb-true}
use Rattle.std.specs.Bool.{beq}
use Rattle.std.proofs.lemmas.Bool.{false≢true}
use Rattle.laws.specs.Pick.{pick}
use Rattle.framing.specs.Frame.{frame_of}
use Rattle.framing.specs.declared.frame.Frame.TheVariants.{Transfer}
use Rattle.chip.specs.Sound.{sound_sheet}
use Rattle.chip.specs.Step.{obeyed}
use Rattle.chip.specs.declared.sheet.Sheet.{Sheet}
use Rattle.mirror.specs.Answer.{number_of}
use Rattle.mirror.specs.Panel.{time_end, half_fits, sound_panel}
use Rattle.mirror.specs.engine.Way.{Way, finish_of, whole_of, first_of, second_of, way_of}
use Rattle.mirror.specs.Words.{joined_of, free, is_good}
use Rattle.mirror.specs.engine.Record.{recorded, read_as, went, transferred, answered}
use Rattle.mirror.specs.declared.answer.Answer.TheVariants as say
use Rattle.mirror.specs.declared.half.Half.{Half}
use Rattle.mirror.specs.declared.half.Half.TheVariants.{Empty, Ignored, Waiting}
use Rattle.mirror.specs.declared.panel.Panel.{Panel}
use Rattle.mirror.specs.declared.record.Recorded.{Recorded}
use Rattle.mirror.specs.laws.TableLaws.{answered_sound}
use Rattle.demands.specs.Mirrors.{ours}
use Rattle.demands.specs.Replay.{Entry, carried_all, entry_of}
use Rattle.demands.specs.Rules.{matching, begun_busy, entries_at, IgnoresBusy, DoesSteps}
use Rattle.demands.proofs.laws.Ways.{Narrow}

-- no half waits at width 8 in a sound panel
fits_narrow : (eight : Bool) (h : Half) → half_fits eight h ≡ true → Narrow eight h
fits_narrow true Empty f e = refl
fits_narrow true (Ignored rs reads) f e = absurd (false≢true f)
fits_narrow true (Waiting rs reads nibble) f e = absurd (false≢true f)
fits_narrow false h f e = absurd (false≢true e)

sound_narrow : (p : Panel) → sound_panel p ≡ true → Narrow p.sheet.registers.eight p.half
sound_narrow p e =
    let eight = p.sheet.registers.eight in
    fits_narrow eight p.half (by (sound_sheet p.sheet) (half_fits eight p.half) (pick (leb time_end p.last) false (ltb p.busy (time_end + 65536))) e)
  where
    by : (s f rest : Bool) → pick (not s) false (pick (not f) false rest) ≡ true → f ≡ true
    by true true rest e = refl
    by true false rest e = e
    by false f rest e = absurd (false≢true e)

-- a record that is not back in time
in_time : (p : Panel) (bytes : List ℕ) (time : ℕ) (rs reads : Bool) (bus : ℕ) → frame_of bytes ≡ Transfer time rs reads bus → p.last ≤ time →
    answered (frame_of bytes) p ≡ transferred time rs reads bus p
in_time p bytes time rs reads bus f l =
    ap (λ x. answered x p) f ∙ ap (λ z. pick z (recorded p say.Back 0 14) (transferred time rs reads bus p)) (le-ltb time p.last l)

module _ (time : ℕ) (r w : Bool) (bus byte : ℕ) (p : Panel) where
  -- whether a way comes to ignored
  abbrev ignores : Way → Bool
  ignores v = eqb (number_of (went v time r w bus byte p).answer) 3

  -- a write that is complete does not
  finish_heard : (rs : Bool) (b : ℕ) → ignores (finish_of rs b) ≡ false
  finish_heard true b = refl
  finish_heard false b = by (eqb b 0)
    where
      by : (z : Bool) → ignores (pick z Way.Nothing Way.Obey) ≡ false
      by true = refl
      by false = refl

  -- nor does a data read that is carried out
  read_heard : (good : Bool) → eqb (number_of (read_as good)) 3 ≡ false
  read_heard true = refl
  read_heard false = refl

  whole_ignores : (z rs reads : Bool) (b : ℕ) → (rs || not reads) ≡ true → ignores (whole_of z rs reads b) ≡ not z
  whole_ignores true rs false b u = finish_heard rs b
  whole_ignores false rs false b u = refl
  whole_ignores true true true b u = read_heard (is_good p)
  whole_ignores false true true b u = refl
  whole_ignores z false true b u = absurd (false≢true u)

  first_ignores : (z rs reads : Bool) → (rs || not reads) ≡ true → ignores (first_of z rs reads) ≡ not z
  first_ignores true rs false u = refl
  first_ignores false rs false u = refl
  first_ignores true true true u = refl
  first_ignores false true true u = refl
  first_ignores z false true u = absurd (false≢true u)

  second_heard : (rs reads : Bool) (b : ℕ) → ignores (second_of rs reads b) ≡ false
  second_heard rs false b = finish_heard rs b
  second_heard true true b = read_heard (is_good p)
  second_heard false true b = refl

  -- a second half that matches goes its way
  untorn : (a b : Bool) (v : Way) → (a && b) ≡ true → ignores (pick (not a) Way.Torn (pick (not b) Way.Torn v)) ≡ ignores v
  untorn true true v e = refl
  untorn true false v e = absurd (false≢true e)
  untorn false b v e = absurd (false≢true e)

  way_ignores : (eight : Bool) (h : Half) (z rs reads : Bool) (b : ℕ) → Narrow eight h → (rs || not reads) ≡ true → matching h rs reads ≡ true →
      ignores (way_of eight h z rs reads b) ≡ begun_busy h z
  way_ignores true h z rs reads b n u m = whole_ignores z rs reads b u ∙ sym (ap (λ x. begun_busy x z) (n refl))
  way_ignores false Empty z rs reads b n u m = first_ignores z rs reads u
  way_ignores false (Ignored r₁ w₁) z rs reads b n u m = untorn (beq r₁ rs) (beq w₁ reads) Way.Ignored m
  way_ignores false (Waiting r₁ w₁ nibble) z rs reads b n u m =
      untorn (beq r₁ rs) (beq w₁ reads) (second_of rs reads b) m ∙ second_heard rs reads b

-- DEMAND 2, THE BUSY RULE
pub ignores_busy : IgnoresBusy ours
unfolding transferred
ignores_busy p bytes time rs reads bus s f l u m =
    let eight = p.sheet.registers.eight in
    let byte = joined_of eight p.half bus in
    ap (λ (r : Recorded). eqb (number_of r.answer) 3) (sym (answered_sound p bytes s) ∙ in_time p bytes time rs reads bus f l)
    ∙ way_ignores time rs reads bus byte p eight p.half (free time p) rs reads byte (sound_narrow p s) u m

module _ (time : ℕ) (r w : Bool) (bus byte : ℕ) (p : Panel) where
  -- the sheet that a way comes to
  abbrev sheet_by : Way → Sheet
  sheet_by v = (went v time r w bus byte p).panel.sheet

  finish_sheet : (rs : Bool) → sheet_by (finish_of rs byte) ≡ carried_all (entry_of rs false byte) p.sheet
  finish_sheet true = refl
  finish_sheet false = by (eqb byte 0) refl
    where
      by : (z : Bool) → eqb byte 0 ≡ z → sheet_by (pick z Way.Nothing Way.Obey) ≡ obeyed byte p.sheet
      by true e = sym (ap (λ n. obeyed n p.sheet) (eqb-true byte 0 e))
      by false e = refl

  whole_sheet : (z rs reads : Bool) → sheet_by (whole_of z rs reads byte) ≡ carried_all (entries_at true Empty z rs reads byte) p.sheet
  whole_sheet true rs false = finish_sheet rs
  whole_sheet true true true = refl
  whole_sheet true false true = refl
  whole_sheet false rs false = refl
  whole_sheet false true true = refl
  whole_sheet false false true = refl

  first_sheet : (z rs reads : Bool) → sheet_by (first_of z rs reads) ≡ carried_all (entries_at false Empty z rs reads bus) p.sheet
  first_sheet true rs false = refl
  first_sheet true true true = refl
  first_sheet true false true = refl
  first_sheet false rs false = refl
  first_sheet false true true = refl
  first_sheet false false true = refl

  second_sheet : (rs reads : Bool) → sheet_by (second_of rs reads byte) ≡ carried_all (entry_of rs reads byte) p.sheet
  second_sheet rs false = finish_sheet rs
  second_sheet true true = refl
  second_sheet false true = refl

  torn_sheet : (a b : Bool) (v : Way) (es : List Entry) → sheet_by v ≡ carried_all es p.sheet →
      sheet_by (pick (not a) Way.Torn (pick (not b) Way.Torn v)) ≡ carried_all (pick (a && b) es []) p.sheet
  torn_sheet true true v es h = h
  torn_sheet true false v es h = refl
  torn_sheet false b v es h = refl

ignored_sheet : (a b : Bool) (time : ℕ) (r w : Bool) (bus byte : ℕ) (p : Panel) →
    sheet_by time r w bus byte p (pick (not a) Way.Torn (pick (not b) Way.Torn Way.Ignored)) ≡ p.sheet
ignored_sheet true true time r w bus byte p = refl
ignored_sheet true false time r w bus byte p = refl
ignored_sheet false b time r w bus byte p = refl

way_sheet : (eight : Bool) (h : Half) (z rs reads : Bool) (time bus : ℕ) (p : Panel) → Narrow eight h →
    sheet_by time rs reads bus (joined_of eight h bus) p (way_of eight h z rs reads (joined_of eight h bus)) ≡ carried_all (entries_at eight h z rs reads bus) p.sheet
way_sheet true h z rs reads time bus p n =
    subst (λ x. sheet_by time rs reads bus bus p (whole_of z rs reads bus) ≡ carried_all (entries_at true x z rs reads bus) p.sheet) (sym (n refl))
    (whole_sheet time rs reads bus bus p z rs reads)
way_sheet false Empty z rs reads time bus p n = first_sheet time rs reads bus (joined_of false Empty bus) p z rs reads
way_sheet false (Ignored a b) z rs reads time bus p n = ignored_sheet (beq a rs) (beq b reads) time rs reads bus (joined_of false (Ignored a b) bus) p
way_sheet false (Waiting a b nibble) z rs reads time bus p n =
    let byte = joined_of false (Waiting a b nibble) bus in
    torn_sheet time rs reads bus byte p (beq a rs) (beq b reads) (second_of rs reads byte) (entry_of rs reads byte) (second_sheet time rs reads bus byte p rs reads)

-- DEMAND 2, THE STEPS
pub steps : DoesSteps ours
unfolding transferred
steps p bytes time rs reads bus s f l =
    ap (λ (x : Recorded). x.panel.sheet) (sym (answered_sound p bytes s) ∙ in_time p bytes time rs reads bus f l)
    ∙ way_sheet p.sheet.registers.eight p.half (free time p) rs reads time bus p (sound_narrow p s)
