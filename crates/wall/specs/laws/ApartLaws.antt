-- Where the frame's dots stand in a drawing whose cells stand apart: each dot stands outside the gaps, at one place.
use Rattle.std.specs.Prelude.{ℕ, ◌+◌, ◌-◌, ◌*◌, ◌/◌, ◌%◌, ◌<◌, ◌≤◌, ◌≡◌, Bool, true, false}
use Rattle.std.proofs.Common.{div-add-mod', mod-lt, mul-add, mul-le-mul_right, arith, leb-false}
use Rattle.std.proofs.lemmas.Bool.{lt-leb}
use Rattle.dots.specs.laws.PartsLaws.{part_back, part_of, place_back, place_in}
use Rattle.chip.specs.Sizes.{lines_of, most_lines}
use Rattle.chip.proofs.laws.SizesLaws.{lines_few}
use Rattle.picture.specs.Pattern.{tall}
use Rattle.wall.specs.Apart.{gap_of, span_of, is_gap, dot_at, rows_drawn}

-- a place shows a dot that is no further on
pub dot_below : (g n i : ℕ) → dot_at g n i ≤ i
dot_below g n i = omega (arith, mul-add (i / (n + g)) n g, div-add-mod' i (n + g))

-- the rows that lie in gaps, and all rows, are never more than those of the most lines
pub gaps_few : (apart : Bool) (chip : ℕ) → (lines_of chip - 1) * gap_of apart ≤ (most_lines - 1) * gap_of true
gaps_few true chip = omega (arith, lines_few chip)
gaps_few false chip = omega arith

pub rows_few : (apart : Bool) (chip : ℕ) → rows_drawn apart chip ≤ span_of (gap_of true) tall most_lines
rows_few apart chip = omega (arith, lines_few chip, gaps_few apart chip)

-- where dot d of the frame stands
abbrev pub stands_at : ℕ → ℕ → ℕ → ℕ
stands_at g n d = d / n * (n + g) + d % n

module _ (g n : ℕ) (some : 0 < n) where
  -- it stands outside the gaps, and is the dot that is shown there
  pub stands_outside : (d : ℕ) → is_gap g n (stands_at g n d) ≡ false
  stands_outside d =
      let h = mod-lt d some in
      rw (place_back (n + g) (d / n) (d % n) (omega (arith, h))) (lt-leb n (d % n) h)

  pub stands_shown : (d : ℕ) → dot_at g n (stands_at g n d) ≡ d
  stands_shown d =
      let h = mod-lt d some in
      let k : d % n < n + g = omega (arith, h) in
      rw (part_back (n + g) (d / n) (d % n) k, place_back (n + g) (d / n) (d % n) k) (div-add-mod' d n)

  -- it is shown nowhere else
  pub shown_once : (i : ℕ) → is_gap g n i ≡ false → stands_at g n (dot_at g n i) ≡ i
  shown_once i o =
      let h = leb-false n (i % (n + g)) o in
      rw (part_back n (i / (n + g)) (i % (n + g)) h, place_back n (i / (n + g)) (i % (n + g)) h) (div-add-mod' i (n + g))

  -- the dots of m cells stand within their span
  pub stands_within : (m d : ℕ) → d < m * n → stands_at g n d < span_of g n m
  stands_within m d l =
      let p = part_of n m d l in
      let q : d / n ≤ m - 1 = omega (arith, p) in
      omega (arith, mul-add (d / n) n g, div-add-mod' d n, mul-le-mul_right {m = d / n} {n = m - 1} g q)

  -- and what is shown there, outside the gaps, are no other dots
  pub shown_within : (m i : ℕ) → i < span_of g n m → is_gap g n i ≡ false → dot_at g n i < m * n
  shown_within m i l o =
      let e : m - 1 ≤ m = omega arith in
      let k : i < m * (n + g) = omega (arith, mul-add m n g, mul-le-mul_right {m = m - 1} {n = m} g e) in
      place_in n m (i / (n + g)) (i % (n + g)) (part_of (n + g) m i k) (leb-false n (i % (n + g)) o)
