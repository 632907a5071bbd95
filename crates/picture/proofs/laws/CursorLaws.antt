-- Laws of the cursor's line and position.
use Rattle.std.specs.Prelude.{ℕ, ◌+◌, ◌-◌, ◌*◌, ◌/◌, ◌%◌, ◌<◌, ◌≡◌, Bool, true, false, eqb}
use Rattle.std.proofs.Common.{sym, ap, ◌∙◌, mod-lt, mod-eq_of_lt, div-add-mod', arith}
use Rattle.laws.specs.Pick.{pick}
use Rattle.dots.specs.laws.PartsLaws.{place_in, part_round}
use Rattle.chip.specs.Sizes.{lines_of, two_lines, positions, places_of, pattern_size}
use Rattle.chip.proofs.laws.SizesLaws.{lines_some}
use Rattle.chip.specs.Address.{address_number, display}
use Rattle.chip.specs.declared.address.Address.{Address}
use Rattle.chip.specs.declared.address.Address.TheVariants.{Display, Pattern}
use Rattle.chip.specs.declared.address.PatternAddress.{PatternAddress}
use Rattle.picture.specs.Cursor.{line_of, position_of}

-- the position that shows the address: (position + shift) mod 16 is the address mod 16
pub position_shows : (chip : ℕ) (address : Address) (shift : ℕ)
    → (position_of chip address shift + shift) % positions ≡ address_number chip address % positions
position_shows chip address shift = there (address_number chip address) shift
  where
    there : (n k : ℕ) → ((n + (positions - k % positions)) % positions + k) % positions ≡ n % positions
    there n k = omega arith

-- it is one of the sixteen
pub position_below : (chip : ℕ) (address : Address) (shift : ℕ) → position_of chip address shift < positions
position_below chip address shift = omega arith

-- its line is one of the chip's
pub line_below : (chip : ℕ) (address : Address) → line_of chip address < lines_of chip
line_below chip address = mod-lt (address_number chip address / positions) (lines_some chip)

-- line and position show the address: 16 line + (position + shift) mod 16 is the address, counted round the places that the chip has
pub place_shows : (chip : ℕ) (address : Address) (shift : ℕ)
    → line_of chip address * positions + (position_of chip address shift + shift) % positions ≡ address_number chip address % places_of chip
place_shows chip address shift =
    ap (λ (k : ℕ). line_of chip address * positions + k) (position_shows chip address shift)
    ∙ split (lines_of chip) (address_number chip address) (lines_some chip)
  where
    split : (lines n : ℕ) → 0 < lines → n / positions % lines * positions + n % positions ≡ n % (lines * positions)
    split lines n h =
        sym (mod-eq_of_lt (place_in positions lines (n / positions % lines) (n % positions) (mod-lt (n / positions) h) (omega arith)))
        ∙ part_round positions lines (n / positions) (n % positions) ∙ ap (λ (k : ℕ). k % (lines * positions)) (div-add-mod' n positions)

-- a pattern address counts as the display address of its number
pub pattern_position : (chip : ℕ) (p : PatternAddress) (shift : ℕ)
    → position_of chip (Pattern p) shift ≡ position_of chip (Display (display p.0)) shift
pattern_position chip p shift = by (eqb chip two_lines)
  where
    by : (b : Bool) → (p.0 % pattern_size + (positions - shift % positions)) % positions ≡ (p.0 % (pick b 2 1 * positions) + (positions - shift % positions)) % positions
    by true = omega arith
    by false = omega arith

pub pattern_line : (chip : ℕ) (p : PatternAddress) → line_of chip (Pattern p) ≡ line_of chip (Display (display p.0))
pattern_line chip p = by (eqb chip two_lines)
  where
    by : (b : Bool) → p.0 % pattern_size / positions % pick b 2 1 ≡ p.0 % (pick b 2 1 * positions) / positions % pick b 2 1
    by true = omega arith
    by false = omega arith
