-- The frame and where a dot lands (document 01, "The picture"; of two lines, document 02, wish 1).
use Rattle.std.specs.Prelude.{ℕ, ◌*◌, ◌/◌, ◌≤◌, ◌≡◌, Bool, false, not, List, leb, eqb, length}
use Rattle.laws.specs.Pick.{pick}
use Rattle.dots.specs.Landing.{Landing, dot}
use Rattle.dots.specs.ByRows.{by_rows}
use Rattle.chip.specs.Sizes.{lines_of, most_lines, positions}
use Rattle.picture.specs.Pattern.{tall, wide}

-- 80 dots of a row are 10 bytes
abbrev pub bytes_across : ℕ
bytes_across = positions * wide / 8

-- a chip's frame is 8 rows of 80 dots for each of its lines: dot (r, x) is bit 7 - (x mod 8) of byte 10 r + (x div 8)
abbrev pub glass : ℕ → Landing
glass chip = by_rows (lines_of chip * tall) bytes_across

-- the bytes of the largest frame
abbrev pub most_frame_size : ℕ
most_frame_size = most_lines * tall * bytes_across

-- what `rows` and `frame_size` answer, with the bounds that their callers need
pub record Rows (chip r : ℕ) : Type 0 where
  pub is : r ≡ (glass chip).rows
  pub fits : r ≤ most_lines * tall

pub record FrameSize (chip r : ℕ) : Type 0 where
  pub is : r ≡ (glass chip).size
  pub fits : r ≤ most_frame_size

-- dot (r, x) of a chip's frame is lit: its bit is 1. None is outside, nor in a frame of another size
abbrev pub lit_at : ℕ → List ℕ → ℕ → ℕ → Bool
lit_at chip f r x =
    pick (not (eqb (length f) (glass chip).size)) false
    (pick (leb (glass chip).rows r) false (pick (leb (glass chip).cols x) false (eqb (dot (glass chip) f r x) 1)))
