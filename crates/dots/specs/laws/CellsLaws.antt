-- Painting every cell of every line from a blank frame gives the frame; for any landing.
use Prim.Native.Nat.{ℕ, zero, suc, ◌+◌, ◌*◌, ◌/◌, ◌%◌, ◌≤◌, ◌<◌, max}
use Rattle.std.specs.Prelude.{◌≡◌, Bool, false, List, length, get_or, replicate}
use Rattle.std.proofs.Common.{sym, ap, ap₂, ◌∙◌, subst, div-add-mod', not-suc-le-zero, arith}
use Rattle.std.proofs.Math.Decide.{ℕ_discrete, dec_lt}
use Rattle.std.proofs.lemmas.List.{length-replicate, get_or-replicate}
use Rattle.std.proofs.Math.ListN.{get_or-eq_default}
use Rattle.laws.specs.Bit.{bit, one}
use Rattle.laws.specs.laws.BitLaws.{one_lt, bit_of_zero}
use Rattle.dots.specs.engine.Cells.{in_order, put, strip, block, line, page}
use Rattle.dots.specs.laws.PartsLaws.{place_in, part_of, place_of}
use Rattle.dots.specs.laws.TableLaws.{in_order_keeps}
use Rattle.dots.specs.Landing.{Landing, dot, dots_frame}
use Rattle.dots.specs.laws.LandingLaws.{Bytes, is_frame, length_put, put_same, put_other, put_spare, put_bytes}

-- steps that paint g, over any landing
module _ (L : Landing) (g : ℕ → ℕ → Bool) where
  -- a frame on the way: of the right size, no dot lit that is not g's, 0 in every bit that is no dot's
  record OnTheWay (f : List ℕ) : Type 0 where
    long : length f ≡ L.size
    bytes : Bytes f
    within : (r x : ℕ) → r < L.rows → x < L.cols → dot L f r x ≤ one (g r x)
    spare : (b i : ℕ) → b < L.size → i < 8 → L.used b i ≡ false → bit (get_or f b 0) i ≡ 0

  -- a frame on the way that shows g at the dot (r, x)
  record Shows (r x : ℕ) (f : List ℕ) : Type 0 where
    way : OnTheWay f
    here : dot L f r x ≡ one (g r x)

  -- a step that stays on the way and leaves every dot that is shown
  record Keeps (step : List ℕ → List ℕ) : Type 0 where
    way : (f : List ℕ) → OnTheWay f → OnTheWay (step f)
    shown : (r x : ℕ) → r < L.rows → x < L.cols → (f : List ℕ) → Shows r x f → Shows r x (step f)

  -- a step after which the dot (r, x) is shown
  abbrev Paints : ℕ → ℕ → (List ℕ → List ℕ) → Type 0
  Paints r x step = (f : List ℕ) → OnTheWay f → Shows r x (step f)

  module _ (r x v : ℕ) (p : r < L.rows) (q : x < L.cols) (e : v ≡ one (g r x)) where
    small : v < 2
    small = omega (arith, one_lt (g r x))

    put_at : (f : List ℕ) → length f ≡ L.size → (s y : ℕ) → s < L.rows → y < L.cols
        → (P : ℕ → Type 0) → P (dot L f s y) → ((s ≡ r) × (y ≡ x) → P (max (dot L f s y) (one (g s y)))) → P (dot L (put L f r x v) s y)
    put_at f n s y ps qs P away same = go (ℕ_discrete s r) (ℕ_discrete y x)
      where
        go : Dec (s ≡ r) → Dec (y ≡ x) → P (dot L (put L f r x v) s y)
        go (yes a) (yes b) =
            subst P
            (sym
            (ap₂ (dot L (put L f r x v)) a b ∙ put_same L f r x v n p q small
            ∙ ap₂ max (sym (ap₂ (dot L f) a b)) (e ∙ sym (ap₂ (λ (i j : ℕ). one (g i j)) a b))))
            (same (a, b))
        go (yes a) (no b) = subst P (sym (put_other L f r x v n p q small s y ps qs (λ k. b k.1))) away
        go (no a) b = subst P (sym (put_other L f r x v n p q small s y ps qs (λ k. a k.0))) away

    put_way : (f : List ℕ) → OnTheWay f → OnTheWay (put L f r x v)
    put_way f W = record {
      long = length_put L f r x v ∙ W.long;
      bytes = put_bytes L f r x v W.long p q small W.bytes;
      within = (λ s y ps qs. put_at f W.long s y ps qs (λ n. n ≤ one (g s y)) (W.within s y ps qs) (λ _. omega (arith, W.within s y ps qs)));
      spare = (λ b i pb qi u. put_spare L f r x v W.long p q small b i u ∙ W.spare b i pb qi u);
    }

    put_keeps : Keeps (λ f. put L f r x v)
    put_keeps = record {
      way = put_way;
      shown = (λ s y ps qs f S. record {
        way = put_way f S.way;
        here = put_at f S.way.long s y ps qs (λ n. n ≡ one (g s y)) S.here (λ _. omega (arith, S.here));
      });
    }

    put_paints : Paints r x (λ f. put L f r x v)
    put_paints f W = record {
      way = put_way f W;
      here = put_same L f r x v W.long p q small ∙ omega (arith, e, W.within r x p q);
    }

  steps_keep : (step : ℕ → List ℕ → List ℕ) (n : ℕ) → ((m : ℕ) → m < n → Keeps (step m)) → Keeps (in_order step n)
  steps_keep step n k = record {
    way = in_order_keeps OnTheWay step n (λ m h. (k m h).way);
    shown = (λ r x p q. in_order_keeps (Shows r x) step n (λ m h. (k m h).shown r x p q));
  }

  steps_paint : (step : ℕ → List ℕ → List ℕ) (n m r x : ℕ) → r < L.rows → x < L.cols → ((i : ℕ) → i < n → Keeps (step i))
      → m < n → Paints r x (step m) → Paints r x (in_order step n)
  unfolding in_order
  steps_paint step zero m r x p q k h s f W = absurd (not-suc-le-zero h)
  steps_paint step (suc n) m r x p q k h s f W =
      go (ℕ_discrete m n) (λ d. steps_paint step n m r x p q k' (omega arith) s f W)
    where
      k' : (i : ℕ) → i < n → Keeps (step i)
      k' i l = k i (omega arith)

      go : Dec (m ≡ n) → ((m ≡ n → ⊥) → Shows r x (in_order step n f)) → Shows r x (in_order step (suc n) f)
      go (yes e) before = subst (λ (i : ℕ). Shows r x (step i (in_order step n f))) e (s (in_order step n f) ((steps_keep step n k').way f W))
      go (no d) before = (k n (omega arith)).shown r x p q (in_order step n f) (before d)

  -- the painter's order, with values that are g's
  module _ (tall wide across lines : ℕ) (high : L.rows ≡ lines * tall) (broad : L.cols ≡ across * wide)
      (v : ℕ → ℕ → ℕ → ℕ → ℕ)
      (e : (l p i c : ℕ) → l < lines → p < across → i < tall → c < wide → v l p i c ≡ one (g (l * tall + i) (p * wide + c))) where
    row_ok : (l i : ℕ) → l < lines → i < tall → l * tall + i < L.rows
    row_ok l i hl hi = omega (arith, place_in tall lines l i hl hi)

    col_ok : (p c : ℕ) → p < across → c < wide → p * wide + c < L.cols
    col_ok p c hp hc = omega (arith, place_in wide across p c hp hc)

    strip_keeps : (l p c : ℕ) → l < lines → p < across → c < wide → Keeps (strip L tall (λ i. v l p i c) (l * tall) (p * wide + c))
    strip_keeps l p c hl hp hc =
        steps_keep _ tall
        (λ i hi. put_keeps (l * tall + i) (p * wide + c) (v l p i c) (row_ok l i hl hi) (col_ok p c hp hc) (e l p i c hl hp hi hc))

    block_keeps : (l p : ℕ) → l < lines → p < across → Keeps (block L tall wide (v l p) (l * tall) (p * wide))
    block_keeps l p hl hp = steps_keep _ wide (λ c hc. strip_keeps l p c hl hp hc)

    line_keeps : (l : ℕ) → l < lines → Keeps (line L tall wide across (v l) (l * tall))
    line_keeps l hl = steps_keep _ across (λ p hp. block_keeps l p hl hp)

    page_keeps : Keeps (page L tall wide across lines v)
    page_keeps = steps_keep _ lines (λ l hl. line_keeps l hl)

    page_paints : (l p i c : ℕ) → l < lines → p < across → i < tall → c < wide
        → Paints (l * tall + i) (p * wide + c) (page L tall wide across lines v)
    page_paints l p i c hl hp hi hc =
        let r : ℕ = l * tall + i in
        let x : ℕ = p * wide + c in
        let hr : r < L.rows = row_ok l i hl hi in
        let hx : x < L.cols = col_ok p c hp hc in
        steps_paint _ lines l r x hr hx line_keeps hl
        (steps_paint _ across p r x hr hx (λ p hp. block_keeps l p hl hp) hp
        (steps_paint _ wide c r x hr hx (λ c hc. strip_keeps l p c hl hp hc) hc
        (steps_paint _ tall i r x hr hx
        (λ i hi. put_keeps (l * tall + i) (p * wide + c) (v l p i c) (row_ok l i hl hi) (col_ok p c hp hc) (e l p i c hl hp hi hc))
        hi (put_paints r x (v l p i c) hr hx (e l p i c hl hp hi hc)))))

    -- every dot is some cell's
    page_shows : (r x : ℕ) → r < L.rows → x < L.cols → Paints r x (page L tall wide across lines v)
    page_shows r x p q f W =
        let pr : r < lines * tall = omega (arith, high) in
        let qx : x < across * wide = omega (arith, broad) in
        subst (λ (s : ℕ). Shows s x (page L tall wide across lines v f)) (div-add-mod' r tall)
        (subst (λ (y : ℕ). Shows (r / tall * tall + r % tall) y (page L tall wide across lines v f)) (div-add-mod' x wide)
        (page_paints (r / tall) (x / wide) (r % tall) (x % wide) (part_of tall lines r pr) (part_of wide across x qx)
        (place_of tall lines r pr) (place_of wide across x qx) f W))

    blank_at : (i : ℕ) → get_or {A = ℕ} (replicate L.size 0) i 0 ≡ 0
    blank_at i = go (dec_lt i L.size)
      where
        go : Dec (i < L.size) → get_or {A = ℕ} (replicate L.size 0) i 0 ≡ 0
        go (yes h) = get_or-replicate L.size i 0 0 h
        go (no d) = get_or-eq_default (replicate L.size 0) 0 (omega (arith, length-replicate {A = ℕ} L.size 0))

    blank_bit : (b i : ℕ) → bit (get_or {A = ℕ} (replicate L.size 0) b 0) i ≡ 0
    blank_bit b i = ap (λ (n : ℕ). bit n i) (blank_at b) ∙ bit_of_zero i

    blank_way : OnTheWay (replicate L.size 0)
    blank_way = record {
      long = length-replicate L.size 0;
      bytes = (λ j. omega (arith, blank_at j));
      within = (λ r x p q. omega (arith, blank_bit (L.byte_at r x) (L.bit_at r x)));
      spare = (λ b i p q u. blank_bit b i);
    }

    -- all cells painted on a blank frame are the frame of g
    pub page_frame : page L tall wide across lines v (replicate L.size 0) ≡ dots_frame L g
    page_frame =
        let f : List ℕ = replicate L.size 0 in
        let W : OnTheWay (page L tall wide across lines v f) = page_keeps.way f blank_way in
        is_frame L g (page L tall wide across lines v f) W.long W.bytes
        (λ r x p q. (page_shows r x p q f blank_way).here) W.spare
