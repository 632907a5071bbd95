-- A rule that every painter can be held against (document 01, "The picture").
use Rattle.std.specs.Prelude.{ℕ, ◌≡◌, Bool, true, List, length}
use Rattle.dots.specs.Landing.{count_of}
use Rattle.mirror.specs.Panel.{sound_panel}
use Rattle.mirror.specs.declared.panel.Panel.{Panel}
use Rattle.picture.specs.Paint.{Painted, paint_paper, glass_of}
use Rattle.picture.specs.Pattern.{font_size}
use Rattle.picture.specs.Picture.{lit}

-- what answers how many dots are lit
abbrev pub Painter : Type 0
Painter = Panel → List ℕ → Bool → List ℕ → Painted

-- THE PICTURE: of a sound panel, with a font and a frame of the right sizes, it is the number of dots that are lit
abbrev pub CountsDots : Painter → Type 0
CountsDots painter =
    (p : Panel) (font : List ℕ) (dark : Bool) (frame : List ℕ) → sound_panel p ≡ true → length font ≡ font_size → length frame ≡ (glass_of p).size →
    (paint_paper (painter p font dark frame)).dots ≡ count_of (glass_of p) (lit p.sheet font dark)
