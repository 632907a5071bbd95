-- The rows that a position of a line shows, way by way, and that their dots are the lit ones.
use Rattle.std.specs.Prelude.{ℕ, suc, zero, ◌+◌, ◌-◌, ◌*◌, ◌/◌, ◌%◌, ◌<◌, ◌≡◌, refl, Bool, true, false, not, ◌&&◌, ◌||◌, List, [], ltb, eqb, length, get_or, replicate, set}
use Rattle.std.proofs.Common.{sym, ap, ap₂, ◌∙◌, arith, eq-eqb, ne_eqb, get_or-set_same, get_or-set_other}
use Rattle.std.proofs.Math.Bool.{and-false, or-true, or-false}
use Rattle.std.proofs.Math.Nat.{mod-mod}
use Rattle.std.proofs.Math.Decide.{ℕ_discrete}
use Rattle.std.proofs.lemmas.List.{get_or-replicate}
use Rattle.laws.specs.Pick.{pick}
use Rattle.laws.specs.Bit.{bit, one}
use Rattle.laws.specs.laws.BitLaws.{bit_lt, one_bit, bit_of_zero}
use Rattle.dots.specs.Table.{table}
use Rattle.dots.specs.laws.TableLaws.{get_d_table, length_table}
use Rattle.dots.specs.laws.PartsLaws.{part_back, place_back}
use Rattle.chip.specs.Address.{pattern, read_pattern}
use Rattle.chip.specs.declared.sheet.Sheet.{Sheet}
use Rattle.picture.specs.Pattern.{tall, wide, patterns, font_start, pattern_row, glyph_row, pattern_of, patterns_of, glyph_of, shape_of}
use Rattle.picture.specs.Cursor.{cursor_here}
use Rattle.picture.specs.Picture.{code_at, shape_at, cursor_row, lit}
use Rattle.picture.specs.engine.Shown.{full, page_dot, shown_of}

-- the panel's own four patterns give what pattern memory does
pub own_pattern : (memory : List ℕ) (own : List (List ℕ)) (code : ℕ) → own ≡ patterns_of memory → get_or own (code % patterns) [] ≡ pattern_of memory code
own_pattern memory own code e =
    ap (λ (o : List (List ℕ)). get_or o (code % patterns) []) e
    ∙ get_d_table (pattern_of memory) patterns (code % patterns) [] (omega arith)
    ∙ ap (λ (n : ℕ). table (λ r. read_pattern (pattern (tall * n + r)) memory) tall) (mod-mod code patterns)

module _ (s : Sheet) (font : List ℕ) (dark : Bool) (l p : ℕ) where
  abbrev away : Bool
  away = not (cursor_here s.registers l p)

  pub shown_off : not s.registers.on ≡ true → replicate tall 0 ≡ shown_of s font dark l p
  unfolding shown_of
  shown_off d = rw d

  pub shown_away : not s.registers.on ≡ false → away ≡ true → shape_at s font l p ≡ shown_of s font dark l p
  unfolding shown_of
  shown_away d h = rw (d, h)

  pub shown_blink : not s.registers.on ≡ false → away ≡ false → (s.registers.blink && dark) ≡ true
      → replicate tall full ≡ shown_of s font dark l p
  unfolding shown_of
  shown_blink d h b = rw (d, h, b)

  pub shown_under : not s.registers.on ≡ false → away ≡ false → (s.registers.blink && dark) ≡ false → s.registers.cursor ≡ true
      → set (shape_at s font l p) cursor_row full ≡ shown_of s font dark l p
  unfolding shown_of
  shown_under d h b u = rw (d, h, b, u)

  pub shown_bare : not s.registers.on ≡ false → away ≡ false → (s.registers.blink && dark) ≡ false → s.registers.cursor ≡ false
      → shape_at s font l p ≡ shown_of s font dark l p
  unfolding shown_of
  shown_bare d h b u = rw (d, h, b, u)

all_five : (j : ℕ) → j < wide → bit full j ≡ 1
all_five zero h = refl
all_five (suc zero) h = refl
all_five (suc (suc zero)) h = refl
all_five (suc (suc (suc zero))) h = refl
all_five (suc (suc (suc (suc zero)))) h = refl
all_five (suc (suc (suc (suc (suc j))))) h = omega arith

length_shape : (memory font : List ℕ) (code : ℕ) → length (shape_of memory font code) ≡ tall
length_shape memory font code = by (ltb code font_start)
  where
    by : (t : Bool) → length (pick t (pattern_of memory code) (glyph_of font code)) ≡ tall
    by true = length_table (pattern_row memory code) tall
    by false = length_table (glyph_row font code) tall

-- one dot, by the tests: D, the cursor's position, the blink while dark, C
module _ (shape : List ℕ) (i j : ℕ) (long : length shape ≡ tall) (p : i < tall) (q : j < wide) where
  bare : one (eqb (bit (get_or shape i 0) j) 1) ≡ bit (get_or shape i 0) j
  bare = one_bit (bit (get_or shape i 0) j) (bit_lt (get_or shape i 0) j)

  underlined : Dec (i ≡ cursor_row) → bit (get_or (set shape cursor_row full) i 0) j ≡ one (eqb (bit (get_or shape i 0) j) 1 || eqb i cursor_row)
  underlined (yes e) =
      ap (λ (k : ℕ). bit (get_or (set shape cursor_row full) k 0) j) e
      ∙ ap (λ (n : ℕ). bit n j) (get_or-set_same shape cursor_row full 0 (omega (arith, long))) ∙ all_five j q
      ∙ sym (ap one (ap (λ (b : Bool). eqb (bit (get_or shape i 0) j) 1 || b) (eq-eqb i cursor_row e) ∙ or-true (eqb (bit (get_or shape i 0) j) 1)))
  underlined (no d) =
      ap (λ (n : ℕ). bit n j) (get_or-set_other shape cursor_row i full 0 d) ∙ sym bare
      ∙ sym (ap one (ap (λ (b : Bool). eqb (bit (get_or shape i 0) j) 1 || b) (ne_eqb i cursor_row d) ∙ or-false (eqb (bit (get_or shape i 0) j) 1)))

  cell_dot : (on here blink cursor : Bool)
      → bit (get_or (pick (not on) (replicate tall 0) (pick (not here) shape (pick blink (replicate tall full) (pick cursor (set shape cursor_row full) shape)))) i 0) j
      ≡ one (on && (eqb (bit (get_or shape i 0) j) 1 || cursor && here && eqb i cursor_row || blink && here))
  cell_dot false here blink cursor = ap (λ (n : ℕ). bit n j) (get_or-replicate tall i 0 0 p) ∙ bit_of_zero j
  cell_dot true false blink cursor = simp (and-false, or-false) (sym bare)
  cell_dot true true true cursor =
      simp or-true (ap (λ (n : ℕ). bit n j) (get_or-replicate tall i full 0 p) ∙ all_five j q)
  cell_dot true true false true = simp or-false (underlined (ℕ_discrete i cursor_row))
  cell_dot true true false false = simp or-false (sym bare)

-- the dots of the rows shown are the lit dots
pub shown_lit : (s : Sheet) (font : List ℕ) (dark : Bool) (l p i c : ℕ) → i < tall → c < wide
    → page_dot s font dark l p i c ≡ one (lit s font dark (l * tall + i) (p * wide + c))
unfolding lit shown_of
shown_lit s font dark l p i c hi hc =
    cell_dot (shape_at s font l p) i (wide - 1 - c) (length_shape s.pattern font (code_at s l p)) hi (omega arith) s.registers.on
    (cursor_here s.registers l p) (s.registers.blink && dark) s.registers.cursor
    ∙ sym (ap₂ (λ (m j : ℕ). one (dot_at m j ((p * wide + c) / wide) ((p * wide + c) % wide))) (part_back tall l i hi) (place_back tall l i hi)
    ∙ ap₂ (λ (q k : ℕ). one (dot_at l i q k)) (part_back wide p c hc) (place_back wide p c hc))
  where
    dot_at : ℕ → ℕ → ℕ → ℕ → Bool
    dot_at m j q k =
        s.registers.on
        && (eqb (bit (get_or (shape_at s font m q) j 0) (wide - 1 - k)) 1
        || s.registers.cursor && cursor_here s.registers m q && eqb j cursor_row
        || s.registers.blink && dark && cursor_here s.registers m q)
