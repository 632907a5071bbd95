-- The line `written` of a sound panel is what a walk over its display memory would give.
use Rattle.std.specs.Prelude.{ℕ, ◌<◌, ◌≡◌, refl, Bool, true, false, not, [], ◌∷◌, eqb}
use Rattle.std.proofs.Common.{ap, ◌∙◌}
use Rattle.std.proofs.Math.Option.{none, some}
use Rattle.laws.specs.Pick.{pick}
use Rattle.laws.specs.Bit.{one}
use Rattle.text.specs.Hex.{hex_of}
use Rattle.chip.specs.Sizes.{display_size}
use Rattle.chip.specs.Written.{is_written}
use Rattle.chip.proofs.laws.WrittenLaws.{walk_bit}
use Rattle.mirror.specs.Panel.{sound_panel}
use Rattle.mirror.specs.Written.{WrittenPaper, walk_of, written_for}
use Rattle.mirror.specs.declared.panel.Panel.{Panel}
use Rattle.wall.specs.Written.{place_bytes}

-- an address stands on it exactly where its byte isn't 20h
pub place_walked : (p : Panel) (a : ℕ) → sound_panel p ≡ true → a < display_size →
    place_bytes (written_for p).bits a ≡ pick (is_written p.sheet.display a) (32 ∷ hex_of a) []
place_walked p a h l =
    ap (λ (b : Bool). place_bytes (picked b).bits a) h
    ∙ ap (λ (n : ℕ). pick (eqb n 0) [] (32 ∷ hex_of a)) (walk_bit display_size p.sheet.display a l)
    ∙ by (is_written p.sheet.display a)
  where
    picked : Bool → WrittenPaper
    picked b = pick (not b) (record { number = some 10; bits = 0 }) (record { number = none; bits = walk_of p })

    by : (b : Bool) → pick (eqb (one b) 0) [] (32 ∷ hex_of a) ≡ pick b (32 ∷ hex_of a) []
    by true = refl
    by false = refl
