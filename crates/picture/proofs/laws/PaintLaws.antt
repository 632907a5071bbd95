-- The cells painted on a blank frame are the frame of the lit dots, and its ones are their number.
use Rattle.std.specs.Prelude.{ℕ, ◌+◌, ◌*◌, ◌<◌, ◌≡◌, refl, Bool, true, false, not, List, eqb, length, replicate, Ok, Err}
use Rattle.std.proofs.Common.{ap, ◌∙◌, arith, eq-eqb, ne_eqb}
use Rattle.std.proofs.Math.Option.{Option, none, some}
use Rattle.std.proofs.lemmas.Bool.{lt-leb}
use Rattle.laws.specs.Pick.{pick}
use Rattle.laws.specs.Bit.{one}
use Rattle.dots.specs.Landing.{Landing, dot, dots_frame, count_of}
use Rattle.dots.specs.laws.LandingLaws.{dot_frame, length_frame}
use Rattle.dots.specs.engine.Ones.{ones_of}
use Rattle.dots.specs.laws.CellsLaws.{page_frame}
use Rattle.dots.specs.laws.OnesLaws.{ones_frame}
use Rattle.chip.specs.declared.sheet.Sheet.{Sheet}
use Rattle.mirror.specs.Panel.{sound_panel}
use Rattle.mirror.specs.declared.panel.Panel.{Panel}
use Rattle.picture.specs.Pattern.{tall, wide, font_size}
use Rattle.picture.specs.Frame.{lit_at}
use Rattle.picture.specs.Mode.{mode_b, row_turn, column_turn, glass_for}
use Rattle.chip.specs.Sizes.{lines_of, positions}
use Rattle.picture.specs.Picture.{lit}
use Rattle.picture.specs.engine.Shown.{page_dot, page_put}
use Rattle.picture.specs.engine.Wiring.{wiring_of}
use Rattle.picture.proofs.laws.ShownLaws.{shown_lit}
use Rattle.picture.specs.Paint.{Painted, Paints, glass_of, paint_paper, dots_for, painted_of, frame_after}
use Rattle.mirror.specs.declared.answer.Refusal.TheVariants.{Size, Unsound}

module _ (s : Sheet) (font : List ℕ) (dark : Bool) where
  abbrev own : Landing
  own = glass_for s.registers

  abbrev count : ℕ
  count = lines_of s.registers.chip

  dots : (l p i c : ℕ) → l < count → p < positions → i < tall → c < wide
      → page_dot s font dark l p i c ≡ one (lit s font dark (l * tall + i) (p * wide + c))
  dots l p i c hl hp hi hc = shown_lit s font dark l p i c hi hc

  pub page_painted : (f after : List ℕ) → f ≡ replicate own.size 0 → after ≡ page_put (wiring_of s.registers) s font dark f → after ≡ dots_frame own (lit s font dark)
  page_painted f after e P =
      P ∙ ap (page_put (wiring_of s.registers) s font dark) e
      ∙ page_frame own (lit s font dark) tall wide positions count refl refl (page_dot s font dark) dots

module _ (panel : Panel) (font : List ℕ) (dark : Bool) (frame : List ℕ) where
  -- the answer on paper: 10 for a panel that is not sound, then 9 for a size, and then 0 lit dots; otherwise no number, and those that are lit
  paints : (answer : Painted) (after : List ℕ) → answer ≡ painted_of panel font dark frame → after ≡ frame_after panel font dark frame
      → Paints panel font dark frame answer after
  paints answer after told left = record {
    told = told;
    paper = ap paint_paper told ∙ by (not (sound_panel panel)) (not (eqb (length font) font_size)) (not (eqb (length frame) (glass_of panel).size));
    left = left;
  }
    where
      number : Bool → Bool → Bool → Option ℕ
      number p q t = pick p (some 10) (pick q (some 9) (pick t (some 9) none))

      by : (p q t : Bool) → paint_paper (pick p (Err Unsound) (pick q (Err Size) (pick t (Err Size) (Ok (dots_for none panel font dark)))))
          ≡ record { number = number p q t; dots = dots_for (number p q t) panel font dark }
      by true q t = refl
      by false true t = refl
      by false false true = refl
      by false false false = refl

  -- the ways out of a painting
  pub paints_unsound : not (sound_panel panel) ≡ true → Paints panel font dark frame (Err Unsound) frame
  paints_unsound u = paints (Err Unsound) frame (rw u) (rw u)

  pub paints_font : not (sound_panel panel) ≡ false → (length font ≡ font_size → ⊥) → Paints panel font dark frame (Err Size) frame
  paints_font u f = paints (Err Size) frame (rw (u, ne_eqb (length font) font_size f)) (rw (u, ne_eqb (length font) font_size f))

  module _ (u : not (sound_panel panel) ≡ false) (f : length font ≡ font_size) where
    pub paints_size : (length frame ≡ (glass_of panel).size → ⊥) → Paints panel font dark frame (Err Size) frame
    paints_size g =
        paints (Err Size) frame
        (rw (u, eq-eqb (length font) font_size f, ne_eqb (length frame) (glass_of panel).size g))
        (rw (u, eq-eqb (length font) font_size f, ne_eqb (length frame) (glass_of panel).size g))

    pub paints_lines : length frame ≡ (glass_of panel).size → (blank after : List ℕ) (n : ℕ) → blank ≡ replicate (glass_of panel).size 0
        → after ≡ page_put (wiring_of panel.sheet.registers) panel.sheet font dark blank → n ≡ ones_of after → Paints panel font dark frame (Ok n) after
    paints_lines g blank after n e P counted =
        let painted = page_painted panel.sheet font dark blank after e P in
        paints (Ok n) after
        (rw (u, eq-eqb (length font) font_size f, eq-eqb (length frame) (glass_of panel).size g)
        (ap Ok (counted ∙ ap ones_of painted ∙ ones_frame (glass_of panel) (lit panel.sheet font dark))))
        (rw (u, eq-eqb (length font) font_size f, eq-eqb (length frame) (glass_of panel).size g) painted)

  -- whatever holds of the two refusals, with the frame as it was, and of the painting, holds
  pub painting_is : (P : Painted → List ℕ → Type 0) → P (Err Unsound) frame → P (Err Size) frame
      → P (Ok (count_of (glass_of panel) (lit panel.sheet font dark))) (dots_frame (glass_of panel) (lit panel.sheet font dark))
      → P (painted_of panel font dark frame) (frame_after panel font dark frame)
  painting_is P unsound size painted = by (not (sound_panel panel)) (not (eqb (length font) font_size)) (not (eqb (length frame) (glass_of panel).size))
    where
      by : (p q t : Bool)
          → P (pick p (Err Unsound) (pick q (Err Size) (pick t (Err Size) (Ok (count_of (glass_of panel) (lit panel.sheet font dark))))))
          (pick p frame (pick q frame (pick t frame (dots_frame (glass_of panel) (lit panel.sheet font dark)))))
      by true q t = unsound
      by false true t = size
      by false false true = size
      by false false false = painted

  -- a refused painting reports 0 lit dots and leaves every byte as it was
  pub refused_leaves : (n : ℕ) → (paint_paper (painted_of panel font dark frame)).number ≡ some n
      → ((paint_paper (painted_of panel font dark frame)).dots ≡ 0) × (frame_after panel font dark frame ≡ frame)
  refused_leaves n =
      painting_is (λ a f. (paint_paper a).number ≡ some n → ((paint_paper a).dots ≡ 0) × (f ≡ frame)) (λ _. (refl, refl)) (λ _. (refl, refl))
      (λ e. absurd (let z : ◌≡◌ {A = ℕ} 0 1 = cc in omega arith))

  -- a painting that goes well shows a dot exactly where it is lit, and answers the number of those dots
  pub painted_dots : (paint_paper (painted_of panel font dark frame)).number ≡ none
      → ((paint_paper (painted_of panel font dark frame)).dots ≡ count_of (glass_of panel) (lit panel.sheet font dark))
      × ((r x : ℕ) → r < (glass_of panel).rows → x < (glass_of panel).cols → dot (glass_of panel) (frame_after panel font dark frame) r x ≡ one (lit panel.sheet font dark r x))
  painted_dots =
      painting_is
      (λ a f. (paint_paper a).number ≡ none
      → ((paint_paper a).dots ≡ count_of (glass_of panel) (lit panel.sheet font dark))
      × ((r x : ℕ) → r < (glass_of panel).rows → x < (glass_of panel).cols → dot (glass_of panel) f r x ≡ one (lit panel.sheet font dark r x)))
      (λ e. absurd (let z : ◌≡◌ {A = ℕ} 0 1 = cc in omega arith)) (λ e. absurd (let z : ◌≡◌ {A = ℕ} 0 1 = cc in omega arith))
      (λ _. (refl, dot_frame (glass_of panel) (lit panel.sheet font dark)))

  -- the place that row r takes in the panel's own mode, and column x
  abbrev row_on : ℕ → ℕ
  row_on r = (row_turn panel.sheet.registers.chip (mode_b panel.sheet.registers)).at r

  abbrev column_on : ℕ → ℕ
  column_on x = (column_turn panel.sheet.registers.chip (mode_b panel.sheet.registers)).at x

  -- and read dot by dot, each in the place that it takes, it is the picture
  pub painted_lit : (paint_paper (painted_of panel font dark frame)).number ≡ none → (r x : ℕ) → r < (glass_of panel).rows → x < (glass_of panel).cols
      → lit_at panel.sheet.registers.chip (frame_after panel font dark frame) (row_on r) (column_on x) ≡ lit panel.sheet font dark r x
  painted_lit h r x p q =
      painting_is (λ a f. (paint_paper a).number ≡ none → lit_at panel.sheet.registers.chip f (row_on r) (column_on x) ≡ lit panel.sheet font dark r x)
      (λ e. absurd (let z : ◌≡◌ {A = ℕ} 0 1 = cc in omega arith)) (λ e. absurd (let z : ◌≡◌ {A = ℕ} 0 1 = cc in omega arith))
      (λ _. rw (
        eq-eqb _ _ (length_frame (glass_of panel) (lit panel.sheet font dark)),
        lt-leb _ _ ((row_turn panel.sheet.registers.chip (mode_b panel.sheet.registers)).inside r p),
        lt-leb _ _ ((column_turn panel.sheet.registers.chip (mode_b panel.sheet.registers)).inside x q),
        dot_frame (glass_of panel) (lit panel.sheet font dark) r x p q,
      )
      (one_eqb (lit panel.sheet font dark r x)))
      h
    where
      one_eqb : (b : Bool) → eqb (one b) 1 ≡ b
      one_eqb true = refl
      one_eqb false = refl
