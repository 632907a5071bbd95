-- Where a dot lands: row and column to byte and bit, and back. Every order of a frame's bytes is a value of `Landing`.
use Rattle.std.specs.Prelude.{ℕ, ◌<◌, ◌≡◌, Bool, true, ◌&&◌, List, get_or}
use Rattle.laws.specs.Bit.{bit, one, pack}
use Rattle.dots.specs.Table.{table, sum}

pub record Landing : Type 0 where
  -- how many rows and columns of dots there are, and bytes of a frame
  pub rows : ℕ
  pub cols : ℕ
  pub size : ℕ
  -- the byte and the bit of a dot
  pub byte_at : ℕ → ℕ → ℕ
  pub bit_at : ℕ → ℕ → ℕ
  -- whether a bit is some dot's, and the row and column of that dot
  pub used : ℕ → ℕ → Bool
  pub row_at : ℕ → ℕ → ℕ
  pub col_at : ℕ → ℕ → ℕ
  -- a dot lands inside, on a bit that is used, and is found again from there: no two dots share a bit
  pub in_size : (r x : ℕ) → r < rows → x < cols → byte_at r x < size
  pub in_byte : (r x : ℕ) → r < rows → x < cols → bit_at r x < 8
  pub in_use : (r x : ℕ) → r < rows → x < cols → used (byte_at r x) (bit_at r x) ≡ true
  pub row_back : (r x : ℕ) → r < rows → x < cols → row_at (byte_at r x) (bit_at r x) ≡ r
  pub col_back : (r x : ℕ) → r < rows → x < cols → col_at (byte_at r x) (bit_at r x) ≡ x
  -- a bit that is used is the bit of a dot
  pub row_in : (b i : ℕ) → b < size → i < 8 → used b i ≡ true → row_at b i < rows
  pub col_in : (b i : ℕ) → b < size → i < 8 → used b i ≡ true → col_at b i < cols
  pub byte_back : (b i : ℕ) → b < size → i < 8 → used b i ≡ true → byte_at (row_at b i) (col_at b i) ≡ b
  pub bit_back : (b i : ℕ) → b < size → i < 8 → used b i ≡ true → bit_at (row_at b i) (col_at b i) ≡ i

-- the dot (r, x) of a frame, 0 or 1
abbrev pub dot : Landing → List ℕ → ℕ → ℕ → ℕ
dot L f r x = bit (get_or f (L.byte_at r x) 0) (L.bit_at r x)

-- the frame whose lit dots are g's: 0 in every bit that is no dot's
unfoldable pub dots_frame : Landing → (ℕ → ℕ → Bool) → List ℕ
dots_frame L g = table (λ b. pack (λ i. one (L.used b i && g (L.row_at b i) (L.col_at b i))) 8) L.size

-- how many of g's dots are lit
unfoldable pub count_of : Landing → (ℕ → ℕ → Bool) → ℕ
count_of L g = sum (λ r. sum (λ x. one (g r x)) L.cols) L.rows
