-- The order of bytes by rows: dot (r, x) is bit 7 - (x mod 8) of byte r n + (x div 8), n being the bytes of a row.
use Rattle.std.specs.Prelude.{ℕ, ◌+◌, ◌-◌, ◌*◌, ◌/◌, ◌%◌, refl, true}
use Rattle.std.proofs.Common.{ap, ◌∙◌, div-add-mod', arith}
use Rattle.dots.specs.laws.PartsLaws.{place_in, part_back, place_back, part_of, place_of}
use Rattle.dots.specs.laws.ColumnLaws.{column_in, column_byte, column_bit, column_back, byte_in}
use Rattle.dots.specs.Landing.{Landing}

-- m rows of n bytes; every bit is some dot's
abbrev pub by_rows : ℕ → ℕ → Landing
by_rows m n = record {
  rows = m;
  cols = 8 * n;
  size = m * n;
  byte_at = (λ r x. r * n + x / 8);
  bit_at = (λ r x. 7 - x % 8);
  used = (λ b i. true);
  row_at = (λ b i. b / n);
  col_at = (λ b i. 8 * (b % n) + (7 - i));
  in_size = (λ r x p q. place_in n m r (x / 8) p (byte_in n x q));
  in_byte = (λ r x p q. omega arith);
  in_use = (λ r x p q. refl);
  row_back = (λ r x p q. part_back n r (x / 8) (byte_in n x q));
  col_back = (λ r x p q. ap (λ (k : ℕ). 8 * k + (7 - (7 - x % 8))) (place_back n r (x / 8) (byte_in n x q)) ∙ column_back x);
  row_in = (λ b i p q u. part_of n m b p);
  col_in = (λ b i p q u. column_in n (b % n) i (place_of n m b p));
  byte_back = (λ b i p q u. ap (λ (k : ℕ). b / n * n + k) (column_byte (b % n) i) ∙ div-add-mod' b n);
  bit_back = (λ b i p q u. column_bit (b % n) i q);
}
