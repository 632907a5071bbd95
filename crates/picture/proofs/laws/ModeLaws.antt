-- What the mode does to a painting: the dots take other places, and nothing else changes.
use Rattle.std.specs.Prelude.{ℕ, ◌+◌, ◌-◌, ◌*◌, ◌/◌, ◌%◌, ◌<◌, ◌≡◌, Bool, true, false, List, leb, eqb}
use Rattle.std.proofs.Math.Path.{refl}
use Rattle.std.proofs.Common.{sym, ap, ◌∙◌, arith, le-leb}
use Rattle.std.proofs.Math.Option.{none}
use Rattle.std.proofs.Math.Decide.{dec_lt}
use Rattle.std.proofs.lemmas.Bool.{lt-leb}
use Rattle.laws.specs.Bit.{bit, one}
use Rattle.laws.specs.laws.BitLaws.{bit_zero}
use Rattle.dots.specs.Landing.{Landing, dot, dots_frame, count_of}
use Rattle.dots.specs.Turned.{turned}
use Rattle.dots.specs.laws.TurnedLaws.{twice_frame}
use Rattle.chip.specs.Sizes.{one_line, two_lines, function_end}
use Rattle.chip.specs.Step.{function_set}
use Rattle.chip.specs.declared.sheet.Sheet.{Sheet}
use Rattle.mirror.specs.Panel.{sound_panel}
use Rattle.mirror.specs.declared.panel.Panel.{Panel}
use Rattle.picture.specs.Frame.{glass}
use Rattle.picture.specs.Mode.{mode_b, row_turn, column_turn, glass_in, glass_for, upright_of}
use Rattle.picture.specs.Picture.{lit}
use Rattle.picture.specs.Paint.{Painted, glass_of, paint_paper, painted_of, frame_after}
use Rattle.picture.proofs.laws.PaintLaws.{painted_dots}
use Rattle.picture.proofs.laws.PictureLaws.{function_unseen}

-- dot (r, x) of the one landing lands where dot (s, y) of the other would
pub record LandsAs (L K : Landing) (r x s y : ℕ) : Type 0 where
  pub byte : L.byte_at r x ≡ K.byte_at s y
  pub bit : L.bit_at r x ≡ K.bit_at s y

-- in mode A a dot lands as it lies
pub upright_lands : (chip r x : ℕ) → LandsAs (glass_in chip false) (glass chip) r x r x
upright_lands chip r x = record { byte = refl; bit = refl }

-- in mode B on one line dot (r, x) lands where (r, 79 - x) would
pub one_line_lands : (r x : ℕ) → r < 8 → x < 80 → LandsAs (glass_in one_line true) (glass one_line) r x r (79 - x)
one_line_lands r x p q =
    let row : (1 - 1 - r / 8) * 8 + r % 8 ≡ r = omega arith in
    record { byte = ap (λ (s : ℕ). (glass one_line).byte_at s (79 - x)) row; bit = refl }

-- and on two lines where ((r + 8) mod 16, 79 - x) would
pub two_lines_lands : (r x : ℕ) → r < 16 → x < 80 → LandsAs (glass_in two_lines true) (glass two_lines) r x ((r + 8) % 16) (79 - x)
two_lines_lands r x p q =
    let row : (2 - 1 - r / 8) * 8 + r % 8 ≡ (r + 8) % 16 = omega arith in
    record { byte = ap (λ (s : ℕ). (glass two_lines).byte_at s (79 - x)) row; bit = refl }

-- turning twice is not turning
pub turned_back : (chip : ℕ) (b : Bool) (g : ℕ → ℕ → Bool)
    → dots_frame (turned (glass_in chip b) (row_turn chip b) (column_turn chip b)) g ≡ dots_frame (glass chip) g
turned_back chip b g = twice_frame (glass chip) (row_turn chip b) (column_turn chip b) g

-- as many dots of a sheet are lit, whatever its Function Set bits
pub same_count : (s : Sheet) (font : List ℕ) (dark : Bool) (bits : ℕ)
    → count_of (glass_for (function_set s.registers.eight bits s).registers) (lit (function_set s.registers.eight bits s) font dark)
    ≡ count_of (glass_for s.registers) (lit s font dark)
unfolding count_of lit
same_count s font dark bits = refl

-- a panel, and the same panel as it would be in mode A
module _ (p : Panel) where
  abbrev bits : ℕ
  bits = p.sheet.registers.function

  pub upright_mode : mode_b (upright_of p).sheet.registers ≡ false
  upright_mode =
      let lowest : bit (bits / 2 * 2) 0 ≡ 0 = bit_zero (bits / 2 * 2) ∙ omega arith in
      ap (λ (n : ℕ). eqb n 1) lowest

  -- it is sound exactly when the panel is
  pub upright_sound : sound_panel (upright_of p) ≡ sound_panel p
  upright_sound = rw (same (dec_lt bits function_end)) refl
    where
      same : Dec (bits < function_end) → leb function_end (bits / 2 * 2) ≡ leb function_end bits
      same (yes h) = lt-leb function_end (bits / 2 * 2) (omega arith) ∙ sym (lt-leb function_end bits h)
      same (no d) = le-leb function_end (bits / 2 * 2) (omega arith) ∙ sym (le-leb function_end bits (omega arith))

  module _ (font : List ℕ) (dark : Bool) (frame : List ℕ) where
    -- the answer of a painting is the same, refusals and lit dots too
    pub upright_answer : painted_of (upright_of p) font dark frame ≡ painted_of p font dark frame
    unfolding count_of lit
    upright_answer = rw upright_sound refl

    module _ (well : (paint_paper (painted_of p font dark frame)).number ≡ none) (r x : ℕ) (i : r < (glass_of p).rows) (j : x < (glass_of p).cols) where
      -- where it goes well, the dot (r, x) is then in its own place
      pub upright_dot : dot (glass p.sheet.registers.chip) (frame_after (upright_of p) font dark frame) r x ≡ one (lit p.sheet font dark r x)
      upright_dot =
          sym (ap (λ (b : Bool). dot (glass_in p.sheet.registers.chip b) (frame_after (upright_of p) font dark frame) r x) upright_mode)
          ∙ (painted_dots (upright_of p) font dark frame (ap (λ (a : Painted). (paint_paper a).number) upright_answer ∙ well)).1 r x i j
          ∙ ap one (function_unseen p.sheet font dark r x (bits / 2 * 2))

      -- and in the panel's own mode in the place that it takes
      pub mode_dot : dot (glass_of p) (frame_after p font dark frame) r x ≡ dot (glass p.sheet.registers.chip) (frame_after (upright_of p) font dark frame) r x
      mode_dot = (painted_dots p font dark frame well).1 r x i j ∙ sym upright_dot
