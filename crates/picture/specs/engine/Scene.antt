-- The scene that a painter is given.
use Rattle.std.specs.Prelude.{ℕ, ◌≡◌, Bool, List}
use Rattle.chip.specs.declared.sheet.Sheet.{Sheet}
use Rattle.picture.specs.declared.paint.Scene.{Scene}

pub record IsScene (sheet : Sheet) (font : List ℕ) (dark : Bool) (scene : Scene) : Type 0 where
  pub sheet_is : scene.sheet ≡ sheet
  pub font_is : scene.font.now ≡ font
  pub dark_is : scene.dark ≡ dark
