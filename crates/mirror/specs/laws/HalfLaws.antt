-- Pairs (document 01, "Halves"; slip 1): an ignored pair is ignored in both halves, and a status read never is.
use Rattle.std.specs.Prelude.{ℕ, ◌≡◌, refl, Bool, true, false, not, ◌&&◌, ◌||◌, List}
use Rattle.std.proofs.Common.{sym, ap, subst, ◌∙◌}
use Rattle.std.specs.Bool.{beq}
use Rattle.std.proofs.lemmas.Bool.{false≢true}
use Rattle.laws.specs.Pick.{pick}
use Rattle.framing.specs.Frame.{time_of, rs_of, rw_of, is_transfer}
use Rattle.mirror.specs.Panel.{half_fits}
use Rattle.mirror.specs.Words.{free}
use Rattle.mirror.specs.laws.SoundParts.{parts}
use Rattle.mirror.specs.Table.{waits, is_first, differs, tears, is_status, busy_at, ignores, panel_for}
use Rattle.mirror.specs.Answers.{answer_to, panel_after, panel_after_all, clocked, AllUnclocked}
use Rattle.mirror.specs.laws.RecordKeeps.{not_both, second_clears, between_keeps}
use Rattle.mirror.specs.laws.TableCase.{answer_case, answer_panel}
use Rattle.mirror.specs.Case.{Case}
use Rattle.mirror.specs.Case.Case.{unsound, cut, bad, back, reset, torn, ignored, nothing, held, status, doubtful, taken}
use Rattle.mirror.specs.declared.half.Half.{Half}
use Rattle.mirror.specs.declared.half.Half.TheVariants.{Empty, Ignored, Waiting}
use Rattle.mirror.specs.declared.panel.Panel.{Panel}

-- a status read is never ignored: no sound panel has a status half marked so
pub status_minded : (p : Panel) (log : List ℕ) → is_status log ≡ true → answer_to p log ≡ 3 → ⊥
status_minded p log s z = by (subst (Case p log) z (answer_case p log)) where
  marked : (half : Half) (eight : Bool) → differs half false true ≡ false → half_fits eight half ≡ true → busy_at half false ≡ true → ⊥
  marked Empty eight d f b = false≢true b
  marked (Waiting r w nibble) eight d f b = false≢true b
  marked (Ignored true w) eight d f b = false≢true (sym d)
  marked (Ignored false false) eight d f b = false≢true (sym d)
  marked (Ignored false true) true d f b = false≢true f
  marked (Ignored false true) false d f b = false≢true f

  bits : (half : Half) (eight rs reads busy : Bool) → (reads && not rs) ≡ true → differs half rs reads ≡ false → half_fits eight half ≡ true →
      busy_at half (not (reads && not rs) && busy) ≡ true → ⊥
  bits half eight rs false busy e d f b = false≢true e
  bits half eight true true busy e d f b = false≢true e
  bits half eight false true busy e d f b = marked half eight d f b

  by : Case p log 3 → ⊥
  by (ignored h b) =
      bits p.half p.sheet.registers.eight (rs_of log) (rw_of log) (not (free (time_of log) p)) s h.whole (parts p h.heard.sound).half b

same_bit : (b : Bool) → not (beq b b) ≡ false
same_bit true = refl
same_bit false = refl

-- the second half of a pair that is marked ignored
module _ (p : Panel) (log : List ℕ) (mark : p.half ≡ Ignored (rs_of log) (rw_of log)) (kind : is_transfer log ≡ true) where
  whole_pair : tears p log ≡ false
  whole_pair =
      ap (λ h. differs h (rs_of log) (rw_of log)) mark
      ∙ ap (λ b. b || not (beq (rw_of log) (rw_of log))) (same_bit (rs_of log))
      ∙ same_bit (rw_of log)

  deaf_pair : ignores p log ≡ true
  deaf_pair = ap (λ h. busy_at h (not (is_status log) && not (free (time_of log) p))) mark

  marked_ignored : clocked (answer_to p log) ≡ true → answer_to p log ≡ 3
  marked_ignored = by (answer_case p log) where
    by : {n : ℕ} → Case p log n → clocked n ≡ true → n ≡ 3
    by (unsound a) e = absurd (false≢true e)
    by (cut a b) e = absurd (false≢true e)
    by (bad a b c) e = absurd (false≢true e)
    by (back a b c d) e = absurd (false≢true e)
    by (reset h a) e = absurd (not_both log kind a)
    by (torn h a b) e = absurd (false≢true (sym whole_pair ∙ b))
    by (ignored h a) e = refl
    by (nothing h a b) e = absurd (false≢true (sym a ∙ deaf_pair))
    by (held h a) e = absurd (false≢true (sym h.minded ∙ deaf_pair))
    by (status h a b) e = absurd (false≢true (sym h.minded ∙ deaf_pair))
    by (doubtful h a b d) e = absurd (false≢true (sym h.minded ∙ deaf_pair))
    by (taken h a b d) e = absurd (false≢true (sym h.minded ∙ deaf_pair))

-- a pair begun while busy is ignored in both halves, whenever the second comes, and the second starts no new pair (slip 1)
pub ignored_pair : (p : Panel) (a : List ℕ) (between : List (List ℕ)) (b : List ℕ) →
    is_first p ≡ true → answer_to p a ≡ 3 →
    let q = panel_after p a in AllUnclocked q between →
    let r = panel_after_all q between in
    is_transfer b ≡ true → rs_of b ≡ rs_of a → rw_of b ≡ rw_of a → clocked (answer_to r b) ≡ true →
    (answer_to r b ≡ 3) × ((panel_after r b).half ≡ Empty)
ignored_pair p a between b first three unheard kind rs reads heard =
    (marked_ignored r b mark kind heard, second_clears r b (ap waits mark) heard)
  where
    r : Panel
    r = panel_after_all (panel_after p a) between

    mark : r.half ≡ Ignored (rs_of b) (rw_of b)
    mark =
        ap (λ (x : Panel). x.half)
        (between_keeps (panel_after p a) between unheard ∙ answer_panel p a ∙ ap (λ n. panel_for n p a) three)
        ∙ ap (λ x. pick x (Ignored (rs_of a) (rw_of a)) Empty) first
        ∙ ap (λ x. Ignored x (rw_of a)) (sym rs)
        ∙ ap (λ x. Ignored (rs_of b) x) (sym reads)
