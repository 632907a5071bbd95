-- Soundness of a panel, part by part.
use Rattle.std.specs.Prelude.{◌+◌, ◌<◌, ◌≡◌, true, false, not, ltb, leb}
use Rattle.std.proofs.Common.{ap, ◌∙◌, ltb-true, leb-false, lt-ltb}
use Rattle.std.proofs.lemmas.Bool.{not-false, lt-leb}
use Rattle.laws.specs.Pick.{pick}
use Rattle.laws.specs.laws.PickLaws.{past}
use Rattle.chip.specs.Sound.{sound_sheet}
use Rattle.chip.proofs.laws.SoundLaws as chip
use Rattle.mirror.specs.Panel.{half_fits, time_end, sound_panel}
use Rattle.mirror.specs.declared.panel.Panel.{Panel}

pub record Sound (p : Panel) : Type 0 where
  pub sheet : chip.Sound p.sheet
  pub half : half_fits p.sheet.registers.eight p.half ≡ true
  pub last : p.last < time_end
  pub busy : p.busy < time_end + 65536

pub parts : (p : Panel) → sound_panel p ≡ true → Sound p
parts p e =
    let a = past (not (sound_sheet p.sheet)) e in
    let b = past (not (half_fits p.sheet.registers.eight p.half)) a.later in
    let c = past (leb time_end p.last) b.later in
    record {
      sheet = chip.parts p.sheet (not-false (sound_sheet p.sheet) a.here);
      half = not-false (half_fits p.sheet.registers.eight p.half) b.here;
      last = leb-false time_end p.last c.here;
      busy = ltb-true p.busy (time_end + 65536) c.later;
    }

pub whole : (p : Panel) → Sound p → sound_panel p ≡ true
whole p h =
    let rest = pick (leb time_end p.last) false (ltb p.busy (time_end + 65536)) in
    let fits = half_fits p.sheet.registers.eight p.half in
    ap (λ b. pick (not b) false (pick (not fits) false rest)) (chip.whole p.sheet h.sheet) ∙
    ap (λ b. pick (not b) false rest) h.half ∙
    ap (λ b. pick b false (ltb p.busy (time_end + 65536))) (lt-leb time_end p.last h.last) ∙
    lt-ltb p.busy (time_end + 65536) h.busy
