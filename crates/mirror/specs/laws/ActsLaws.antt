-- The engine tells the ways apart as the meaning does: what each of its steps comes to is what the transfer comes to.
use Rattle.std.specs.Prelude.{ℕ, ◌+◌, ◌*◌, ◌/◌, ◌%◌, ◌≡◌, refl, Bool, true, false, not, List, leb, Option, Some, None}
use Rattle.std.specs.Option.{unwrap_or}
use Rattle.std.proofs.Common.{sym, ap, ◌∙◌}
use Rattle.std.proofs.lemmas.Option.{none-some}
use Rattle.std.specs.Bool.{beq}
use Rattle.laws.specs.Pick.{pick}
use Rattle.framing.specs.Frame.{frame_of}
use Rattle.framing.specs.laws.FrameLaws.{transfer_time, reset_time}
use Rattle.framing.specs.declared.frame.Frame.{Frame}
use Rattle.framing.specs.declared.frame.Frame.TheVariants as frame
use Rattle.mirror.specs.engine.Record.{went, transferred}
use Rattle.mirror.specs.Words.{free, joined_of}
use Rattle.mirror.specs.laws.RecordLaws.{by_way}
use Rattle.mirror.specs.declared.panel.Panel.{Panel}
use Rattle.mirror.specs.engine.Way.{Way, finish_of, first_of, second_of, unless_torn, way_of}
use Rattle.mirror.specs.engine.Acts.{IsInTime, completed_of, rest_of, end_of, half_as, Ends}
use Rattle.mirror.specs.engine.Live.{panel_of, settled_of}
use Rattle.mirror.specs.declared.answer.Verdict.{Verdict}
use Rattle.mirror.specs.declared.live.Live.{Live}
use Rattle.mirror.specs.declared.half.Half.{Half}
use Rattle.mirror.specs.declared.half.Half.TheVariants.{Empty, Ignored, Waiting}

-- a byte that completes, and its way
record Completes (eight : Bool) (half : Half) (free rs reads : Bool) (bus byte : ℕ) : Type 0 where
  pub joins : byte ≡ joined_of eight half bus
  pub way : finish_of rs byte ≡ way_of eight half free rs reads byte

complete_way : (eight : Bool) (half : Half) (free rs reads : Bool) (bus byte : ℕ) → completed_of eight half free rs reads bus ≡ Some byte →
    Completes eight half free rs reads bus byte
complete_way eight half free rs true bus byte e = absurd (none-some byte e)
complete_way true half true rs false bus byte e = record { joins = ap (λ o. unwrap_or o 0) (sym e); way = refl }
complete_way true half false rs false bus byte e = absurd (none-some byte e)
complete_way false Empty free rs false bus byte e = absurd (none-some byte e)
complete_way false (Ignored r w) free rs false bus byte e = absurd (none-some byte e)
complete_way false (Waiting r w nibble) free rs false bus byte e = let k = by (beq r rs) w e in record { joins = k.0; way = k.1 } where
  by : (a w : Bool) → pick a (pick w None (Some (nibble % 16 * 16 + bus / 16))) None ≡ Some byte →
      (byte ≡ nibble % 16 * 16 + bus / 16) × (finish_of rs byte ≡ pick (not a) Way.Torn (pick (not (beq w false)) Way.Torn (finish_of rs byte)))
  by true true e = absurd (none-some byte e)
  by true false e = (ap (λ o. unwrap_or o 0) (sym e), refl)
  by false w e = absurd (none-some byte e)

-- the rest at width 8
whole_way : (half : Half) (free rs reads : Bool) (bus byte : ℕ) → completed_of true half free rs reads bus ≡ None →
    rest_of free rs reads ≡ way_of true half free rs reads byte
whole_way half free rs true bus byte e = refl
whole_way half true rs false bus byte e = absurd (none-some bus (sym e))
whole_way half false rs false bus byte e = refl

-- the second half of a pair, ignored or one that counts
second_way : (free rs reads : Bool) (bus byte : ℕ) (r w : Bool) (nibble : Option ℕ) → completed_of false (half_as r w nibble) free rs reads bus ≡ None →
    unless_torn r w rs reads (end_of nibble rs) ≡ way_of false (half_as r w nibble) free rs reads byte
second_way free rs reads bus byte r w None e = refl
second_way free rs reads bus byte r w (Some nibble) e = by reads (beq r rs) w e where
  by : (reads a w : Bool) → pick reads None (pick a (pick w None (Some (nibble % 16 * 16 + bus / 16))) None) ≡ None →
      pick (not a) Way.Torn (pick (not (beq w reads)) Way.Torn (pick rs Way.ReadEnd Way.StatusEnd)) ≡
      pick (not a) Way.Torn (pick (not (beq w reads)) Way.Torn (second_of rs reads byte))
  by true a w e = refl
  by false false w e = refl
  by false true true e = refl
  by false true false e = absurd (none-some _ (sym e))

-- what each step comes to is what the transfer comes to
module _ (time : ℕ) (rs reads : Bool) (bus : ℕ) (p : Panel) where
  abbrev completed : Option ℕ
  completed = completed_of p.sheet.registers.eight p.half (free time p) rs reads bus

  abbrev byte : ℕ
  byte = joined_of p.sheet.registers.eight p.half bus

  abbrev Comes : Way → ℕ → Type 0
  Comes v b = went v time rs reads bus b p ≡ transferred time rs reads bus p

  pub finished : (c : ℕ) → completed ≡ Some c → Comes (finish_of rs c) c
  finished c e =
      let k = complete_way p.sheet.registers.eight p.half (free time p) rs reads bus c e in
      by_way time rs reads bus p c (finish_of rs c) k.joins k.way

  pub rested : completed ≡ None → p.sheet.registers.eight ≡ true → Comes (rest_of (free time p) rs reads) byte
  rested e w =
      by_way time rs reads bus p byte (rest_of (free time p) rs reads) refl
      (whole_way p.half (free time p) rs reads bus byte (sym (ap (λ x. completed_of x p.half (free time p) rs reads bus) w) ∙ e)
      ∙ ap (λ x. way_of x p.half (free time p) rs reads byte) (sym w))

  pub begun : p.sheet.registers.eight ≡ false → p.half ≡ Empty → Comes (first_of (free time p) rs reads) byte
  begun w h =
      by_way time rs reads bus p byte (first_of (free time p) rs reads) refl
      (ap (λ x. way_of x Empty (free time p) rs reads byte) (sym w) ∙ ap (λ x. way_of p.sheet.registers.eight x (free time p) rs reads byte) (sym h))

  pub ended : (r w : Bool) (nibble : Option ℕ) → completed ≡ None → p.sheet.registers.eight ≡ false → p.half ≡ half_as r w nibble →
      Comes (unless_torn r w rs reads (end_of nibble rs)) byte
  ended r w nibble e z h =
      let same = ap (λ x. completed_of x p.half (free time p) rs reads bus) z ∙ ap (λ x. completed_of false x (free time p) rs reads bus) h in
      by_way time rs reads bus p byte (unless_torn r w rs reads (end_of nibble rs)) refl
      (second_way (free time p) rs reads bus byte r w nibble (sym same ∙ e)
      ∙ sym (ap (λ x. way_of x p.half (free time p) rs reads byte) z ∙ ap (λ x. way_of false x (free time p) rs reads byte) h))

-- the same of a second half, from what its step promises
pub ended_pair : (time : ℕ) (rs reads : Bool) (bus : ℕ) (k k' : Live) (d p : List ℕ) (v : Verdict) (r w : Bool) (nibble : Option ℕ) →
    Ends time rs reads r w nibble k k' v → completed_of k.registers.eight k.half (leb k.busy time) rs reads bus ≡ None →
    k.registers.eight ≡ false → k.half ≡ half_as r w nibble → settled_of k' d p v ≡ transferred time rs reads bus (panel_of k d p)
ended_pair time rs reads bus k k' d p v r w nibble f e z h = f h d p bus _ ∙ ended time rs reads bus (panel_of k d p) r w nibble e z h

-- the record at the front of a log has a time that a panel can have
pub in_time : (s : List ℕ) → IsInTime (frame_of s)
in_time s = by (frame_of s) refl where
  by : (f : Frame) → frame_of s ≡ f → IsInTime f
  by frame.Cut e = tt
  by (frame.Bad size) e = tt
  by (frame.Transfer time rs reads bus) e = transfer_time s time rs reads bus e
  by (frame.Reset time) e = reset_time s time e
