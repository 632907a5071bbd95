-- A landing turned: the dots of one landing in other places of it. The maps of rows and of columns are their own inverses.
use Rattle.std.specs.Prelude.{ℕ, ◌+◌, ◌-◌, ◌*◌, ◌/◌, ◌%◌, ◌<◌, ◌≡◌, refl, Bool, true, false}
use Rattle.std.proofs.Common.{ap, ap₂, ◌∙◌, div-add-mod', arith}
use Rattle.laws.specs.Pick.{pick}
use Rattle.dots.specs.laws.PartsLaws.{place_in, part_back, place_back, part_of, place_of}
use Rattle.dots.specs.Landing.{Landing}

-- a map of n rows, or columns: the place that each takes; twice it is no map at all
pub record Turn (n : ℕ) : Type 0 where
  pub at : ℕ → ℕ
  pub inside : (k : ℕ) → k < n → at k < n
  pub twice : (k : ℕ) → k < n → at (at k) ≡ k

-- dot (r, x) lands where the dot (rows r, columns x) of L would
abbrev pub turned : (L : Landing) → Turn L.rows → Turn L.cols → Landing
turned L rows columns = record {
  rows = L.rows;
  cols = L.cols;
  size = L.size;
  byte_at = (λ r x. L.byte_at (rows.at r) (columns.at x));
  bit_at = (λ r x. L.bit_at (rows.at r) (columns.at x));
  used = L.used;
  row_at = (λ b i. rows.at (L.row_at b i));
  col_at = (λ b i. columns.at (L.col_at b i));
  in_size = (λ r x p q. L.in_size _ _ (rows.inside r p) (columns.inside x q));
  in_byte = (λ r x p q. L.in_byte _ _ (rows.inside r p) (columns.inside x q));
  in_use = (λ r x p q. L.in_use _ _ (rows.inside r p) (columns.inside x q));
  row_back = (λ r x p q. ap rows.at (L.row_back _ _ (rows.inside r p) (columns.inside x q)) ∙ rows.twice r p);
  col_back = (λ r x p q. ap columns.at (L.col_back _ _ (rows.inside r p) (columns.inside x q)) ∙ columns.twice x q);
  row_in = (λ b i p q u. rows.inside _ (L.row_in b i p q u));
  col_in = (λ b i p q u. columns.inside _ (L.col_in b i p q u));
  byte_back = (λ b i p q u. ap₂ L.byte_at (rows.twice _ (L.row_in b i p q u)) (columns.twice _ (L.col_in b i p q u)) ∙ L.byte_back b i p q u);
  bit_back = (λ b i p q u. ap₂ L.bit_at (rows.twice _ (L.row_in b i p q u)) (columns.twice _ (L.col_in b i p q u)) ∙ L.bit_back b i p q u);
}

-- the last first: k takes the place of n - 1 - k
abbrev pub backward : (n : ℕ) → Turn n
backward n = record {
  at = (λ k. n - 1 - k);
  inside = (λ k p. omega arith);
  twice = (λ k p. omega arith);
}

-- m parts of n each, the last part first: part l takes the place of part m - 1 - l, and within a part all stay in order
abbrev pub parts_backward : (m n : ℕ) → Turn (m * n)
parts_backward m n = record {
  at = (λ k. (m - 1 - k / n) * n + k % n);
  inside = (λ k p. let l : k / n < m = part_of n m k p in place_in n m (m - 1 - k / n) (k % n) (omega arith) (place_of n m k p));
  twice = (λ k p.
      let l : k / n < m = part_of n m k p in
      let c : k % n < n = place_of n m k p in
      let back : m - 1 - (m - 1 - k / n) ≡ k / n = omega arith in
      ap₂ (λ (a b : ℕ). (m - 1 - a) * n + b) (part_back n (m - 1 - k / n) (k % n) c) (place_back n (m - 1 - k / n) (k % n) c)
      ∙ ap (λ (a : ℕ). a * n + k % n) back ∙ div-add-mod' k n);
}

-- turned, or left as it is
abbrev pub turned_if : {n : ℕ} → Bool → Turn n → Turn n
turned_if {n} b t = record {
  at = (λ k. pick b (t.at k) k);
  inside = (λ k p. inside b k p);
  twice = (λ k p. twice b k p);
}
  where
    inside : (b : Bool) (k : ℕ) → k < n → pick b (t.at k) k < n
    inside true k p = t.inside k p
    inside false k p = p

    twice : (b : Bool) (k : ℕ) → k < n → pick b (t.at (pick b (t.at k) k)) (pick b (t.at k) k) ≡ k
    twice true k p = t.twice k p
    twice false k p = refl
