-- The ones of a frame's bytes are its lit dots, for any landing.
use Rattle.std.specs.Prelude.{ℕ, zero, suc, ◌+◌, ◌*◌, ◌/◌, ◌%◌, ◌^◌, ◌<◌, ◌≡◌, refl, Bool, true, false, List, length, get_or}
use Rattle.std.proofs.Common.{sym, ap, ap₂, ◌∙◌, div-add-mod', pow-suc, arith}
use Rattle.std.specs.Int.Count.{ones, ones_in, ones_step}
use Rattle.laws.specs.Bit.{bit, one}
use Rattle.laws.specs.laws.BitLaws.{bit_zero, bit_half}
use Rattle.dots.specs.Table.{sum}
use Rattle.dots.specs.Landing.{Landing, dot, dots_frame, count_of}
use Rattle.dots.specs.engine.Ones.{ones_of}
use Rattle.dots.specs.laws.PartsLaws.{place_in, part_back, place_back, part_of, place_of}
use Rattle.dots.specs.laws.SumLaws.{sum_first, sum_cong, sum_pairs, sum_reached}
use Rattle.dots.specs.laws.LandingLaws.{Bytes, one_to_one, dot_frame, spare_frame, length_frame, bytes_frame}

-- the ones of a number are its bits added up
ones_bits : (wide n : ℕ) → n < 2 ^ wide → ones n ≡ sum (bit n) wide
unfolding sum ones ones_in
ones_bits zero n h =
    let e : n ≡ 0 = omega arith in
    ap ones e
ones_bits (suc wide) n h =
    ones_step n
    ∙ ap₂ (λ (x y : ℕ). x + y) (sym (bit_zero n))
    (ones_bits wide (n / 2) (omega (arith, pow-suc 2 wide)) ∙ sum_cong (bit (n / 2)) (λ i. bit n (suc i)) wide (λ i _. sym (bit_half n i)))
    ∙ sym (sum_first (bit n) wide)

module _ (L : Landing) (f : List ℕ) (n : length f ≡ L.size) (bs : Bytes f)
    (spare : (b i : ℕ) → b < L.size → i < 8 → L.used b i ≡ false → bit (get_or f b 0) i ≡ 0) where
  -- the row and the column of dot k, by rows, and its place among the bits of all bytes
  abbrev row : ℕ → ℕ
  row k = k / L.cols

  abbrev col : ℕ → ℕ
  col k = k % L.cols

  abbrev place : ℕ → ℕ
  place k = L.byte_at (row k) (col k) * 8 + L.bit_at (row k) (col k)

  module _ (k : ℕ) (h : k < L.rows * L.cols) where
    row_ok : row k < L.rows
    row_ok = part_of L.cols L.rows k h

    col_ok : col k < L.cols
    col_ok = place_of L.cols L.rows k h

    place_ok : place k < L.size * 8
    place_ok = place_in 8 L.size _ _ (L.in_size (row k) (col k) row_ok col_ok) (L.in_byte (row k) (col k) row_ok col_ok)

    place_byte : place k / 8 ≡ L.byte_at (row k) (col k)
    place_byte = part_back 8 _ _ (L.in_byte (row k) (col k) row_ok col_ok)

    place_bit : place k % 8 ≡ L.bit_at (row k) (col k)
    place_bit = place_back 8 _ _ (L.in_byte (row k) (col k) row_ok col_ok)

  -- no two dots share a bit
  apart : (k l : ℕ) → k < L.rows * L.cols → l < L.rows * L.cols → place k ≡ place l → k ≡ l
  apart k l p q e =
      let same : (row k ≡ row l) × (col k ≡ col l) =
      one_to_one L (row k) (col k) (row l) (col l) (row_ok k p) (col_ok k p) (row_ok l q) (col_ok l q)
      (sym (place_byte k p) ∙ ap (λ (j : ℕ). j / 8) e ∙ place_byte l q) (sym (place_bit k p) ∙ ap (λ (j : ℕ). j % 8) e ∙ place_bit l q) in
      sym (div-add-mod' k L.cols) ∙ ap₂ (λ (r x : ℕ). r * L.cols + x) same.0 same.1 ∙ div-add-mod' l L.cols

  -- a bit that no dot lands on is 0
  off : (j : ℕ) → j < L.size * 8 → ((k : ℕ) → k < L.rows * L.cols → place k ≡ j → ⊥) → bit (get_or f (j / 8) 0) (j % 8) ≡ 0
  off j p none = by (L.used b i) refl
    where
      b : ℕ
      b = j / 8

      i : ℕ
      i = j % 8

      by : (u : Bool) → L.used b i ≡ u → bit (get_or f b 0) i ≡ 0
      by false u = spare b i (part_of 8 L.size j p) (place_of 8 L.size j p) u
      by true u =
          let pb = part_of 8 L.size j p in
          let pi = place_of 8 L.size j p in
          let x-in = L.col_in b i pb pi u in
          let r-is = part_back L.cols (L.row_at b i) (L.col_at b i) x-in in
          let x-is = place_back L.cols (L.row_at b i) (L.col_at b i) x-in in
          absurd
          (none (L.row_at b i * L.cols + L.col_at b i) (place_in L.cols L.rows _ _ (L.row_in b i pb pi u) x-in)
          (ap₂ (λ (r x : ℕ). L.byte_at r x * 8 + L.bit_at r x) r-is x-is
          ∙ ap₂ (λ (c d : ℕ). c * 8 + d) (L.byte_back b i pb pi u) (L.bit_back b i pb pi u) ∙ div-add-mod' j 8))

  -- in a frame whose bits are its dots, and 0 elsewhere, the ones of its bytes are its dots added up
  ones_dots : ones_of f ≡ sum (λ r. sum (dot L f r) L.cols) L.rows
  ones_dots =
      ap (sum (λ b. ones (get_or f b 0))) n
      ∙ sum_cong (λ b. ones (get_or f b 0)) (λ b. sum (bit (get_or f b 0)) 8) L.size (λ b _. ones_bits 8 (get_or f b 0) (bs b))
      ∙ sum_pairs (λ b. bit (get_or f b 0)) L.size 8
      ∙ sum_reached (L.size * 8) place (L.rows * L.cols) (λ j. bit (get_or f (j / 8) 0) (j % 8)) place_ok apart off
      ∙ sum_cong (λ k. bit (get_or f (place k / 8) 0) (place k % 8)) (λ k. dot L f (row k) (col k)) (L.rows * L.cols)
      (λ k p. ap₂ (λ (b i : ℕ). bit (get_or f b 0) i) (place_byte k p) (place_bit k p))
      ∙ sym (sum_pairs (dot L f) L.rows L.cols)

  -- in a frame whose bits are g's dots, and 0 elsewhere, the ones of its bytes are g's lit dots
  pub ones_count : (g : ℕ → ℕ → Bool) → ((r x : ℕ) → r < L.rows → x < L.cols → dot L f r x ≡ one (g r x)) → ones_of f ≡ count_of L g
  unfolding count_of
  ones_count g e =
      ones_dots
      ∙ sum_cong (λ r. sum (dot L f r) L.cols) (λ r. sum (λ x. one (g r x)) L.cols) L.rows
      (λ r p. sum_cong (dot L f r) (λ x. one (g r x)) L.cols (λ x q. e r x p q))

-- the frame of g is such a frame
pub ones_frame : (L : Landing) (g : ℕ → ℕ → Bool) → ones_of (dots_frame L g) ≡ count_of L g
ones_frame L g = ones_count L (dots_frame L g) (length_frame L g) (bytes_frame L g) (spare_frame L g) g (dot_frame L g)
