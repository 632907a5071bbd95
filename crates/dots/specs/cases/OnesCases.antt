-- The ones of a frame with rows of padding, worked out by hand: three rows of two columns, a byte to a column, the top row in the lowest
-- bit, so that five bits of each byte are no dot's.
use Rattle.std.specs.Prelude.{ℕ, ◌≡◌, refl, Bool, ◌||◌, ◌&&◌, [], ◌∷◌, ltb, eqb}
use Rattle.std.proofs.Common.{arith, lt-ltb, ltb-true}
use Rattle.std.specs.Int.Count.{ones, ones_in}
use Rattle.laws.specs.Bit.{pack}
use Rattle.dots.specs.Table.{table, sum}
use Rattle.dots.specs.Landing.{Landing, dots_frame, count_of}
use Rattle.dots.specs.engine.Ones.{ones_of}
use Rattle.dots.specs.laws.OnesLaws.{ones_frame}

abbrev pub padded : Landing
padded = record {
  rows = 3;
  cols = 2;
  size = 2;
  byte_at = (λ r x. x);
  bit_at = (λ r x. r);
  used = (λ b i. ltb i 3);
  row_at = (λ b i. i);
  col_at = (λ b i. b);
  in_size = (λ r x p q. q);
  in_byte = (λ r x p q. omega arith);
  in_use = (λ r x p q. lt-ltb r 3 p);
  row_back = (λ r x p q. refl);
  col_back = (λ r x p q. refl);
  row_in = (λ b i p q u. ltb-true i 3 u);
  col_in = (λ b i p q u. p);
  byte_back = (λ b i p q u. refl);
  bit_back = (λ b i p q u. refl);
}

-- the dots (0, 0), (2, 0) and (1, 1)
abbrev pub three : ℕ → ℕ → Bool
three r x = eqb x 0 && (eqb r 0 || eqb r 2) || eqb x 1 && eqb r 1

three_frame : dots_frame padded three ≡ 0x05 ∷ 0x02 ∷ []
unfolding dots_frame table pack
three_frame = refl

three_count : count_of padded three ≡ 3
unfolding count_of sum
three_count = refl

three_ones : ones_of (0x05 ∷ 0x02 ∷ []) ≡ 3
unfolding sum ones ones_in
three_ones = refl

-- the law says so too
three_law : ones_of (dots_frame padded three) ≡ count_of padded three
three_law = ones_frame padded three

-- a bit that is no dot's would be counted: it has to be 0
stray_ones : ones_of (0x85 ∷ 0x02 ∷ []) ≡ 4
unfolding sum ones ones_in
stray_ones = refl
