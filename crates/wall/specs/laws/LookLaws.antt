-- Two pictures that are made of the same are the same, and so are the lines beneath them.
use Rattle.std.specs.Prelude.{ℕ, ◌/◌, ◌%◌, ◌≡◌, refl, Bool, false, not, ◌&&◌, ◌||◌, List, ◌++◌, Option, Some, None, eqb, length}
use Rattle.std.proofs.Math.Path.{sym, ap}
use Rattle.std.proofs.Common.{◌∙◌}
use Rattle.std.proofs.lemmas.Bool.Decides.{Decides-and, Decides-like}
use Rattle.std.proofs.lemmas.Slice.Eq.{bytes_eq-Decides}
use Rattle.std.specs.Cmp.{unsigned_Decides, booleans_Decides}
use Rattle.std.specs.Option.{option_eq}
use Rattle.std.specs.Str.{bytes_eq}
use Rattle.std.proofs.Math.Bool.{true}
use Rattle.std.specs.Bool.{Decides, beq}
use Rattle.std.proofs.lemmas.Bool.{false≢true}
use Rattle.std.proofs.Math.Option.{none, some}
use Rattle.laws.specs.Pick.{pick}
use Rattle.dots.specs.Landing.{dots_frame}
use Rattle.chip.specs.Sizes.{display_size, lines_of}
use Rattle.chip.specs.Written.{written_in}
use Rattle.chip.specs.Address.{display}
use Rattle.chip.specs.declared.address.Address.TheVariants.{Display}
use Rattle.chip.specs.declared.sheet.Sheet.{Sheet}
use Rattle.mirror.specs.Panel.{sound_panel}
use Rattle.mirror.specs.Written.{WrittenPaper, walk_of}
use Rattle.mirror.specs.declared.panel.Panel.{Panel}
use Rattle.picture.specs.Pattern.{font_size, tall, wide}
use Rattle.picture.specs.Frame.{glass}
use Rattle.picture.specs.Cursor.{cursor_of, line_of, position_of}
use Rattle.picture.specs.Mode.{mode_b, glass_in, upright_of}
use Rattle.picture.specs.Picture.{codes_of, pattern_dot, cursor_row, lit}
use Rattle.picture.specs.Paint.{frame_after}
use Rattle.picture.specs.declared.cursor.Spot.{Spot}
use Rattle.picture.proofs.laws.ModeLaws.{upright_mode, upright_sound}
use Rattle.wall.specs.Beneath.{cursor_line, picture_bytes, shown_lines}
use Rattle.wall.specs.Draw.{drawing_bytes, drawn_panel}
use Rattle.wall.specs.Look.{Alike, look_of}
use Rattle.wall.specs.Written.{written_bytes, written_line}
use Rattle.wall.specs.declared.look.Look.{Look}

-- a sheet that looks so: what a picture isn't made of is set to one value
abbrev sheet_of : Look → Sheet
sheet_of k =
    record {
      registers = record { chip = k.chip; address = Display (display 0); shift = k.shift; up = true; follow = false; on = k.on; cursor = k.cursor; blink = k.blink; eight = true; function = 0; good = false; written = 0 };
      display = k.display;
      pattern = k.pattern;
    }

-- the cursor's line and position, 0 where none is shown
abbrev line_in : Option Spot → ℕ
line_in None = 0
line_in (Some spot) = spot.line

abbrev position_in : Option Spot → ℕ
position_in None = 0
position_in (Some spot) = spot.position

-- the lit dots, from D, C and B, the dots of the patterns and the cursor's place
abbrev dots_of : Bool → Bool → Bool → (ℕ → ℕ → Bool) → ℕ → ℕ → Bool → ℕ → ℕ → Bool
dots_of on cursor blink dots l p dark r x =
    on && (dots r x || (cursor && (eqb (r / tall) l && eqb (x / wide) p) && eqb (r % tall) cursor_row) || (blink && dark && (eqb (r / tall) l && eqb (x / wide) p)))

abbrev spot_at : ℕ → ℕ → Spot
spot_at l p = record { line = l; position = p }

-- the place has no say where no cursor is shown
hidden : (on cursor blink : Bool) (dots : ℕ → ℕ → Bool) (l p : ℕ) (dark : Bool) →
    dots_of on cursor blink dots (line_in (pick (on && (cursor || blink)) (Some (spot_at l p)) None)) (position_in (pick (on && (cursor || blink)) (Some (spot_at l p)) None)) dark
    ≡ dots_of on cursor blink dots l p dark
hidden false cursor blink dots l p dark = refl
hidden true true blink dots l p dark = refl
hidden true false true dots l p dark = refl
hidden true false false dots l p dark = refl

-- the lit dots of a look
abbrev lit_in : Look → List ℕ → Bool → ℕ → ℕ → Bool
lit_in k font dark = dots_of k.on k.cursor k.blink (pattern_dot (sheet_of k) font) (line_in k.place) (position_in k.place) dark

lit_look : (s : Sheet) (font : List ℕ) (dark : Bool) → lit_in (look_of s) font dark ≡ lit s font dark
unfolding lit
lit_look s font dark =
    let g = s.registers in
    hidden g.on g.cursor g.blink (pattern_dot s font) (line_of g.chip g.address) (position_of g.chip g.address g.shift) dark

-- the frame of a look, turned or not
abbrev frame_in : Look → Bool → List ℕ → Bool → List ℕ → List ℕ
frame_in k turned font dark frame =
    pick (not (eqb (length font) font_size)) frame
    (pick (not (eqb (length frame) (glass k.chip).size)) frame (dots_frame (glass_in k.chip turned) (lit_in k font dark)))

module _ (p : Panel) (sound : sound_panel p ≡ true) (font : List ℕ) (dark : Bool) (frame : List ℕ) where
  abbrev k : Look
  k = look_of p.sheet

  abbrev framed : Bool → Bool → (ℕ → ℕ → Bool) → List ℕ
  framed ok turned dots =
      pick (not ok) frame
      (pick (not (eqb (length font) font_size)) frame
      (pick (not (eqb (length frame) (glass p.sheet.registers.chip).size)) frame (dots_frame (glass_in p.sheet.registers.chip turned) dots)))

  as_is : frame_after p font dark frame ≡ frame_in k k.turned font dark frame
  as_is = ap (λ (b : Bool). framed b k.turned (lit p.sheet font dark)) sound ∙ sym (ap (framed true k.turned) (lit_look p.sheet font dark))

  in_mode_a : frame_after (upright_of p) font dark frame ≡ frame_in k false font dark frame
  unfolding lit
  in_mode_a =
      ap (λ (b : Bool). framed b (mode_b (upright_of p).sheet.registers) (lit p.sheet font dark)) (upright_sound p ∙ sound)
      ∙ ap (λ (b : Bool). framed true b (lit p.sheet font dark)) (upright_mode p)
      ∙ sym (ap (framed true false) (lit_look p.sheet font dark))

-- two sound panels that look alike
module _ (p q : Panel) (P : sound_panel p ≡ true) (Q : sound_panel q ≡ true) (e : look_of p.sheet ≡ look_of q.sheet) where
  -- have the same frame, upright or not, with any font and blink
  pub same_frame : (upright : Bool) (font : List ℕ) (dark : Bool) (frame : List ℕ)
      → frame_after (drawn_panel upright p) font dark frame ≡ frame_after (drawn_panel upright q) font dark frame
  same_frame true font dark frame = in_mode_a p P font dark frame ∙ ap (λ (k : Look). frame_in k false font dark frame) e ∙ sym (in_mode_a q Q font dark frame)
  same_frame false font dark frame = as_is p P font dark frame ∙ ap (λ (k : Look). frame_in k k.turned font dark frame) e ∙ sym (as_is q Q font dark frame)

  -- the same codes, and so the same text
  pub same_codes : (l : ℕ) → codes_of p.sheet l ≡ codes_of q.sheet l
  same_codes l = ap (λ (k : Look). codes_of (sheet_of k) l) e

  -- the same cursor
  pub same_cursor : cursor_of p.sheet.registers ≡ cursor_of q.sheet.registers
  same_cursor = ap (λ (k : Look). k.place) e

  -- and the same written places
  pub same_written : written_line p ≡ written_line q
  same_written = walked p P ∙ ap (λ (k : Look). written_bytes (walk_in k)) e ∙ sym (walked q Q)
    where
      walk_in : Look → ℕ
      walk_in k = written_in display_size k.display

      picked : Bool → Panel → WrittenPaper
      picked b p = pick (not b) (record { number = some 10; bits = 0 }) (record { number = none; bits = walk_of p })

      walked : (p : Panel) → sound_panel p ≡ true → written_line p ≡ written_bytes (written_in display_size p.sheet.display)
      walked p h = ap (λ (b : Bool). written_bytes (picked b p).bits) h

  -- so the same picture
  pub same_picture : (apart pairs upright dark : Bool) (font frame : List ℕ)
      → picture_bytes apart pairs upright dark font p frame ≡ picture_bytes apart pairs upright dark font q frame
  same_picture apart pairs upright dark font frame =
      ap (λ (k : Look). made k (frame_after (drawn_panel upright p) font dark frame) (written_line p)) e
      ∙ ap (λ (f : List ℕ). made (look_of q.sheet) f (written_line p)) (same_frame upright font dark frame)
      ∙ ap (λ (w : List ℕ). made (look_of q.sheet) (frame_after (drawn_panel upright q) font dark frame) w) same_written
    where
      made : Look → List ℕ → List ℕ → List ℕ
      made k f w =
          let n = lines_of k.chip in
          drawing_bytes apart k.chip pairs f
          ++ (shown_lines true (sheet_of k) n ++ (shown_lines false (sheet_of k) n ++ (cursor_line n k.place ++ w)))

-- looks that are equal field by field are equal
pub same_look : (a b : Look) → a.chip ≡ b.chip → a.shift ≡ b.shift → a.on ≡ b.on → a.cursor ≡ b.cursor → a.blink ≡ b.blink →
    a.turned ≡ b.turned → a.place ≡ b.place → a.display ≡ b.display → a.pattern ≡ b.pattern → a ≡ b
same_look a b c s o u l t p d m =
    made a.chip b.chip a.shift b.shift a.on b.on a.cursor b.cursor a.blink b.blink a.turned b.turned a.place b.place
    a.display b.display a.pattern b.pattern c s o u l t p d m
  where
    of : ℕ → ℕ → Bool → Bool → Bool → Bool → Option Spot → List ℕ → List ℕ → Look
    of c s o u l t p d m = record { chip = c; shift = s; on = o; cursor = u; blink = l; turned = t; place = p; display = d; pattern = m }

    made : (c c' s s' : ℕ) (o o' u u' l l' t t' : Bool) (p p' : Option Spot) (d d' m m' : List ℕ) → c ≡ c' → s ≡ s' → o ≡ o' → u ≡ u' → l ≡ l' → t ≡ t' →
        p ≡ p' → d ≡ d' → m ≡ m' → of c s o u l t p d m ≡ of c' s' o' u' l' t' p' d' m'
    made c c' s s' o o' u u' l l' t t' p p' d d' m m' e₁ e₂ e₃ e₄ e₅ e₆ e₇ e₈ e₉ = rw (e₁, e₂, e₃, e₄, e₅, e₆, e₇, e₈, e₉) refl

-- two places are found the same exactly where they are equal
abbrev spots : Spot → Spot → Bool
spots a b = eqb a.line b.line && eqb a.position b.position

spot_of_parts : (a b : Spot) → a.line ≡ b.line → a.position ≡ b.position → a ≡ b
spot_of_parts a b l p = rw (l, p) refl

spots_same : (a b : Spot) → Decides (spots a b) (a ≡ b)
spots_same a b =
    Decides-like (spots a b) (λ p. spot_of_parts a b p.0 p.1) (λ e. rw e (refl, refl))
    (Decides-and _ _ (unsigned_Decides a.line b.line) (unsigned_Decides a.position b.position))

places_same : (a b : Option Spot) → Decides (option_eq spots a b) (a ≡ b)
places_same None None = (λ e. refl, λ e. refl)
places_same None (Some b) = (λ e. absurd (false≢true e), λ e. cc)
places_same (Some a) None = (λ e. absurd (false≢true e), λ e. cc)
places_same (Some a) (Some b) = Decides-like (spots a b) (λ e. ap Some e) (λ e. cc) (spots_same a b)

-- and so are two looks
abbrev pub looks : Look → Look → Bool
looks a b =
    eqb a.chip b.chip && (eqb a.shift b.shift && (beq a.on b.on && (beq a.cursor b.cursor && (beq a.blink b.blink && (beq a.turned b.turned
    && (option_eq spots a.place b.place && (bytes_eq a.display b.display && bytes_eq a.pattern b.pattern)))))))

looks_same : (a b : Look) → Decides (looks a b) (a ≡ b)
looks_same a b =
    Decides-like (looks a b)
    (λ p. same_look a b p.0 p.1.0 p.1.1.0 p.1.1.1.0 p.1.1.1.1.0 p.1.1.1.1.1.0 p.1.1.1.1.1.1.0 p.1.1.1.1.1.1.1.0 p.1.1.1.1.1.1.1.1)
    (λ e. rw e (refl, (refl, (refl, (refl, (refl, (refl, (refl, (refl, refl)))))))))
    (Decides-and _ _ (unsigned_Decides a.chip b.chip)
    (Decides-and _ _ (unsigned_Decides a.shift b.shift)
    (Decides-and _ _ (booleans_Decides a.on b.on)
    (Decides-and _ _ (booleans_Decides a.cursor b.cursor)
    (Decides-and _ _ (booleans_Decides a.blink b.blink)
    (Decides-and _ _ (booleans_Decides a.turned b.turned)
    (Decides-and _ _ (places_same a.place b.place)
    (Decides-and _ _ (bytes_eq-Decides a.display b.display) (bytes_eq-Decides a.pattern b.pattern)))))))))

pub alike_looks : (a b : Look) (r : Bool) → r ≡ looks a b → Alike a b r
alike_looks a b r e = record { same = (λ t. (looks_same a b).0 (sym e ∙ t)); told = (λ f. e ∙ (looks_same a b).1 f) }
