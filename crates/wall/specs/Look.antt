-- What a picture and the lines beneath it are made of (docs/WALL.md, "As the log comes").
use Rattle.std.specs.Prelude.{◌≡◌, Bool, true}
use Rattle.chip.specs.declared.sheet.Sheet.{Sheet}
use Rattle.picture.specs.Cursor.{cursor_of}
use Rattle.picture.specs.Mode.{mode_b}
use Rattle.wall.specs.declared.look.Look.{Look}

-- the chip, the shift, D, C and B, the mode, the cursor's place where it is shown, and the two memories: of the address nothing else
abbrev pub look_of : Sheet → Look
look_of s =
    record {
      chip = s.registers.chip;
      shift = s.registers.shift;
      on = s.registers.on;
      cursor = s.registers.cursor;
      blink = s.registers.blink;
      turned = mode_b s.registers;
      place = cursor_of s.registers;
      display = s.display;
      pattern = s.pattern;
    }

-- what a comparison answers: true exactly where the two are equal
pub record Alike {A : Type 0} (a b : A) (r : Bool) : Type 0 where
  pub same : r ≡ true → a ≡ b
  pub told : a ≡ b → r ≡ true
