-- What lights a dot and what does not.
use Rattle.std.specs.Prelude.{ℕ, ◌-◌, ◌/◌, ◌%◌, ◌≡◌, Bool, true, false, ◌&&◌, ◌||◌, ltb, eqb, get_or}
use Rattle.std.proofs.Math.Path.{refl, ap}
use Rattle.std.proofs.Common.{◌∙◌}
use Rattle.std.proofs.Math.Bool.{and-false, or-true, or-false}
use mathlib.Core.List.{List}
use Rattle.laws.specs.Pick.{pick}
use Rattle.laws.specs.Bit.{bit}
use Rattle.dots.specs.laws.TableLaws.{table_cong}
use Rattle.chip.specs.Sizes.{row_end}
use Rattle.chip.specs.Sheet.{with_pattern}
use Rattle.chip.specs.Step.{function_set}
use Rattle.chip.specs.declared.sheet.Sheet.{Sheet}
use Rattle.picture.specs.Pattern.{tall, wide, font_start, pattern_row, glyph_row, pattern_of, glyph_of, shape_of}
use Rattle.picture.specs.Picture.{code_at, shape_at, pattern_dot, at_cursor, cursor_row, cursor_dot, blink_dot, lit}

module _ (s : Sheet) (font : List ℕ) (dark : Bool) (r x : ℕ) where
  -- with D = 0 no dot is lit
  pub off_dark : s.registers.on ≡ false → lit s font dark r x ≡ false
  unfolding lit
  off_dark d = rw d

  -- the blink lights every row of its cell while dark
  pub blink_lights : s.registers.on ≡ true → s.registers.blink ≡ true → dark ≡ true → at_cursor s r x ≡ true → lit s font dark r x ≡ true
  unfolding lit
  blink_lights d b k h = simp (d, b, k, h, or-true)

  -- and nothing while light
  pub light_blink : dark ≡ false → lit s font dark r x ≡ (s.registers.on && (pattern_dot s font r x || cursor_dot s r x))
  unfolding lit
  light_blink k = rw (k, and-false s.registers.blink, or-false (pattern_dot s font r x || cursor_dot s r x))

  -- the cursor lights row 7 of its cell, which stands on its line alone
  pub cursor_lights : s.registers.on ≡ true → s.registers.cursor ≡ true → at_cursor s r x ≡ true → eqb (r % tall) cursor_row ≡ true
      → lit s font dark r x ≡ true
  unfolding lit
  cursor_lights d c h e = rw (d, c, h, e, or-true (pattern_dot s font r x))

  -- and no other row
  pub other_rows : eqb (r % tall) cursor_row ≡ false → lit s font dark r x ≡ (s.registers.on && (pattern_dot s font r x || blink_dot s dark r x))
  unfolding lit
  other_rows e =
      rw (e, and-false (s.registers.cursor && at_cursor s r x), or-false (pattern_dot s font r x))

  -- cursor and blink light no other cell
  pub other_cells : at_cursor s r x ≡ false → lit s font dark r x ≡ (s.registers.on && pattern_dot s font r x)
  unfolding lit
  other_cells h =
      rw (h, and-false s.registers.cursor, and-false (s.registers.blink && dark))
      (ap (λ (b : Bool). s.registers.on && b) (or-false (pattern_dot s font r x || false) ∙ or-false (pattern_dot s font r x)))

  -- the low four Function Set bits light nothing
  pub function_unseen : (n : ℕ) → lit (function_set s.registers.eight n s) font dark r x ≡ lit s font dark r x
  unfolding lit
  function_unseen n = refl

  -- two sheets and fonts with the same patterns and registers light the same dots
  same_shape : (m f : List ℕ) → shape_at s font (r / tall) (x / wide) ≡ shape_of m f (code_at s (r / tall) (x / wide)) → lit s font dark r x ≡ lit (with_pattern m s) f dark r x
  unfolding lit
  same_shape m f e =
      ap (λ (l : List ℕ). s.registers.on && (eqb (bit (get_or l (r % tall) 0) (wide - 1 - x % wide)) 1 || cursor_dot s r x || blink_dot s dark r x)) e

-- equal in the low five bits
abbrev pub LowFive : List ℕ → List ℕ → Type 0
LowFive a b = (i : ℕ) → get_or a i 0 % row_end ≡ get_or b i 0 % row_end

-- the upper bits of font and pattern memory never show
pub upper_bits : (s : Sheet) (font : List ℕ) (dark : Bool) (r x : ℕ) (m f : List ℕ) → LowFive s.pattern m → LowFive font f
    → lit s font dark r x ≡ lit (with_pattern m s) f dark r x
upper_bits s font dark r x m f em ef = same_shape s font dark r x m f (by (code_at s (r / tall) (x / wide)) (ltb (code_at s (r / tall) (x / wide)) font_start))
  where
    by : (code : ℕ) (t : Bool) → pick t (pattern_of s.pattern code) (glyph_of font code) ≡ pick t (pattern_of m code) (glyph_of f code)
    by code true = table_cong (pattern_row s.pattern code) (pattern_row m code) tall (λ i _. em _)
    by code false = table_cong (glyph_row font code) (glyph_row f code) tall (λ i _. ef _)
