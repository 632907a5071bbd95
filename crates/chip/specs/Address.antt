-- The two addresses and their memories (document 01, "The panel"), the display address over the places that the chip has.
use Rattle.std.specs.Prelude.{ℕ, ◌%◌, Bool, true, false, List, get_or, set}
use Rattle.laws.specs.Ring.{moved}
use Rattle.chip.specs.Sizes.{places_of, pattern_size, row_end}
use Rattle.chip.specs.declared.address.DisplayAddress.{DisplayAddress}
use Rattle.chip.specs.declared.address.PatternAddress.{PatternAddress}
use Rattle.chip.specs.declared.address.Address.{Address}
use Rattle.chip.specs.declared.address.Address.TheVariants.{Display, Pattern}

abbrev pub display : ℕ → DisplayAddress
display n = record { 0 = n }

abbrev pub pattern : ℕ → PatternAddress
pattern n = record { 0 = n }

-- on one line it wraps 15 to 0 and 0 to 15; on two it runs on from 0F to 10 and from 1F to 00
abbrev pub moved_display : ℕ → Bool → DisplayAddress → DisplayAddress
moved_display chip up d = display (moved (places_of chip) up d.0)

-- 31 to 0 and 0 to 31 in pattern memory
abbrev pub moved_pattern : Bool → PatternAddress → PatternAddress
moved_pattern up p = pattern (moved pattern_size up p.0)

-- the address by one, within its memory
abbrev pub moved_address : ℕ → Bool → Address → Address
moved_address chip up (Display d) = Display (moved_display chip up d)
moved_address chip up (Pattern p) = Pattern (moved_pattern up p)

-- whether the address points into display memory
abbrev pub in_display : Address → Bool
in_display (Display d) = true
in_display (Pattern p) = false

-- the byte at a display address
abbrev pub read_display : ℕ → DisplayAddress → List ℕ → ℕ
read_display chip d memory = get_or memory (d.0 % places_of chip) 0

-- a byte stored at a display address
abbrev pub written_display : ℕ → DisplayAddress → ℕ → List ℕ → List ℕ
written_display chip d byte memory = set memory (d.0 % places_of chip) byte

-- the entry at a pattern address: upper three bits 0
abbrev pub read_pattern : PatternAddress → List ℕ → ℕ
read_pattern p memory = get_or memory (p.0 % pattern_size) 0 % row_end

-- the low five bits stored at a pattern address
abbrev pub written_pattern : PatternAddress → ℕ → List ℕ → List ℕ
written_pattern p byte memory = set memory (p.0 % pattern_size) (byte % row_end)

-- the address as a status read shows it, bits 6 to 0
abbrev pub address_number : ℕ → Address → ℕ
address_number chip (Display d) = d.0 % places_of chip
address_number chip (Pattern p) = p.0 % pattern_size
