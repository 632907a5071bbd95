-- What a painting answers and the frame it leaves (document 01, "The picture", "Answer numbers"; of two lines and mirrored glass, document 02, wishes 1 and 5).
use Rattle.std.specs.Prelude.{ℕ, ◌≡◌, Bool, not, List, eqb, length, Result, Ok, Err}
use Rattle.std.proofs.Math.Option.{Option, none, some}
use Rattle.laws.specs.Pick.{pick}
use Rattle.dots.specs.Landing.{Landing, dots_frame, count_of}
use Rattle.mirror.specs.Panel.{sound_panel}
use Rattle.mirror.specs.declared.panel.Panel.{Panel}
use Rattle.picture.specs.Pattern.{font_size}
use Rattle.picture.specs.Mode.{glass_for}
use Rattle.picture.specs.Picture.{lit}
use Rattle.mirror.specs.Refusal.{refusal_number}
use Rattle.mirror.specs.declared.answer.Refusal.{Refusal}
use Rattle.mirror.specs.declared.answer.Refusal.TheVariants.{Size, Unsound}

-- how many dots are lit, or a refusal
abbrev pub Painted : Type 0
Painted = Result ℕ Refusal

-- this paper's number of an answer, none where nothing was refused, and its lit dots
pub record PaintPaper : Type 0 where
  pub number : Option ℕ
  pub dots : ℕ

abbrev pub paint_paper : Painted → PaintPaper
paint_paper (Ok dots) = record { number = none; dots = dots }
paint_paper (Err refusal) = record { number = some (refusal_number refusal); dots = 0 }

-- the glass of the panel's own chip, in the panel's own mode
abbrev pub glass_of : Panel → Landing
glass_of panel = glass_for panel.sheet.registers

-- the number by the paper's tests: 10 for a panel that is not sound, then 9 for a font or a frame of another size, and none otherwise
abbrev pub paint_number : Panel → List ℕ → List ℕ → Option ℕ
paint_number panel font frame =
    pick (not (sound_panel panel)) (some 10)
    (pick (not (eqb (length font) font_size)) (some 9) (pick (not (eqb (length frame) (glass_of panel).size)) (some 9) none))

-- a refused painting reports 0 lit dots, any other how many are lit
abbrev pub dots_for : Option ℕ → Panel → List ℕ → Bool → ℕ
dots_for (some n) panel font dark = 0
dots_for none panel font dark = count_of (glass_of panel) (lit panel.sheet font dark)

-- 10 before 9; otherwise how many dots are lit
abbrev pub painted_of : Panel → List ℕ → Bool → List ℕ → Painted
painted_of panel font dark frame =
    pick (not (sound_panel panel)) (Err Unsound)
    (pick (not (eqb (length font) font_size)) (Err Size)
    (pick (not (eqb (length frame) (glass_of panel).size)) (Err Size) (Ok (count_of (glass_of panel) (lit panel.sheet font dark)))))

-- a refused painting leaves every byte as it was; otherwise the lit dots are 1 and all other bits 0
abbrev pub frame_after : Panel → List ℕ → Bool → List ℕ → List ℕ
frame_after panel font dark frame =
    pick (not (sound_panel panel)) frame
    (pick (not (eqb (length font) font_size)) frame
    (pick (not (eqb (length frame) (glass_of panel).size)) frame (dots_frame (glass_of panel) (lit panel.sheet font dark))))

-- all that a painting says and does: the answer, its number and lit dots on paper, and the frame afterwards
pub record Paints (panel : Panel) (font : List ℕ) (dark : Bool) (before : List ℕ) (answer : Painted) (after : List ℕ) : Type 0 where
  pub told : answer ≡ painted_of panel font dark before
  pub paper : paint_paper answer ≡ record { number = paint_number panel font before; dots = dots_for (paint_number panel font before) panel font dark }
  pub left : after ≡ frame_after panel font dark before
