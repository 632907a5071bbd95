-- Laws of the steps: each changes only what document 01 names, and what was written reads back.
use Rattle.std.specs.Prelude.{ℕ, ◌%◌, ◌<◌, ◌≤◌, ◌≡◌, refl, Bool, true, false, List, length, get_or, set}
use Rattle.std.proofs.Common.{sym, ap, ◌∙◌, arith, mod-lt, get_or-set_same, get_or-set_other}
use Rattle.std.proofs.Math.Nat.{mod-mod}
use Rattle.chip.specs.Sizes.{places_of, display_size, pattern_size, row_end}
use Rattle.chip.specs.Address.{read_display, written_display, read_pattern, written_pattern, address_number}
use Rattle.chip.proofs.laws.SizesLaws.{places}
use Rattle.chip.specs.Step.{homed, cleared, entered, screen_set, stepped, shifted, function_set, address_set, next_good, stored_at, followed, written_at, written, passed}
use Rattle.chip.specs.declared.address.DisplayAddress.{DisplayAddress}
use Rattle.chip.specs.declared.address.PatternAddress.{PatternAddress}
use Rattle.chip.specs.declared.address.Address.{Address}
use Rattle.chip.specs.declared.address.Address.TheVariants.{Display, Pattern}
use Rattle.chip.specs.declared.sheet.Sheet.{Sheet}

-- a write by the memory that the address is known to point into
pub written_as : (a : Address) (byte : ℕ) (s : Sheet) → s.registers.address ≡ a → written_at a byte s ≡ written byte s
written_as a byte s e = ap (λ x. written_at x byte s) (sym e)

-- What two sheets have in common. Each law below says which of these a step leaves.
abbrev pub SameEntry : Sheet → Sheet → Type 0
SameEntry s t = (t.registers.up ≡ s.registers.up) × (t.registers.follow ≡ s.registers.follow)

abbrev pub SameScreen : Sheet → Sheet → Type 0
SameScreen s t =
    (t.registers.on ≡ s.registers.on) × (t.registers.cursor ≡ s.registers.cursor) × (t.registers.blink ≡ s.registers.blink)

abbrev pub SameFunction : Sheet → Sheet → Type 0
SameFunction s t = (t.registers.eight ≡ s.registers.eight) × (t.registers.function ≡ s.registers.function)

abbrev pub SameAddress : Sheet → Sheet → Type 0
SameAddress s t = t.registers.address ≡ s.registers.address

abbrev pub SameShift : Sheet → Sheet → Type 0
SameShift s t = t.registers.shift ≡ s.registers.shift

abbrev pub SameDisplay : Sheet → Sheet → Type 0
SameDisplay s t = t.display ≡ s.display

abbrev pub SamePattern : Sheet → Sheet → Type 0
SamePattern s t = t.pattern ≡ s.pattern

abbrev pub SameWritten : Sheet → Sheet → Type 0
SameWritten s t = t.registers.written ≡ s.registers.written

-- Clear leaves S, the screen, width and Function Set bits, and pattern memory
pub clear_keeps : (s : Sheet) → let t = cleared s in (t.registers.follow ≡ s.registers.follow) × SameScreen s t × SameFunction s t × SamePattern s t
clear_keeps s = (refl, (refl, refl, refl), (refl, refl), refl)

-- Home leaves all but address and shift
pub home_keeps : (s : Sheet) → let t = homed s in SameEntry s t × SameScreen s t × SameFunction s t × SameDisplay s t × SamePattern s t × SameWritten s t
home_keeps s = ((refl, refl), (refl, refl, refl), (refl, refl), refl, refl, refl)

-- entry mode leaves all but I/D and S
pub entry_keeps : (up follow : Bool) (s : Sheet) → let t = entered up follow s in
    SameAddress s t × SameShift s t × SameScreen s t × SameFunction s t × SameDisplay s t × SamePattern s t × SameWritten s t
entry_keeps up follow s = (refl, refl, (refl, refl, refl), (refl, refl), refl, refl, refl)

-- the display bits: all but D, C and B
pub screen_keeps : (on cursor blink : Bool) (s : Sheet) → let t = screen_set on cursor blink s in
    SameAddress s t × SameShift s t × SameEntry s t × SameFunction s t × SameDisplay s t × SamePattern s t × SameWritten s t
screen_keeps on cursor blink s = (refl, refl, (refl, refl), (refl, refl), refl, refl, refl)

-- a cursor move, and so a data read: all but the address, the shift among it (slip 3)
pub step_keeps : (up : Bool) (s : Sheet) → let t = stepped up s in
    SameShift s t × SameEntry s t × SameScreen s t × SameFunction s t × SameDisplay s t × SamePattern s t × SameWritten s t
step_keeps up s = (refl, (refl, refl), (refl, refl, refl), (refl, refl), refl, refl, refl)

pub read_steps : (s : Sheet) → passed s ≡ next_good true (stepped s.registers.up s)
read_steps s = refl

-- a display shift: all but the shift
pub shift_keeps : (left : Bool) (s : Sheet) → let t = shifted left s in
    SameAddress s t × SameEntry s t × SameScreen s t × SameFunction s t × SameDisplay s t × SamePattern s t × SameWritten s t
shift_keeps left s = (refl, (refl, refl), (refl, refl, refl), (refl, refl), refl, refl, refl)

-- Function Set: all but the width and its bits
pub function_keeps : (eight : Bool) (bits : ℕ) (s : Sheet) → let t = function_set eight bits s in
    SameAddress s t × SameShift s t × SameEntry s t × SameScreen s t × SameDisplay s t × SamePattern s t × SameWritten s t
function_keeps eight bits s = (refl, refl, (refl, refl), (refl, refl, refl), refl, refl, refl)

-- an address set: all but the address
pub set_keeps : (a : Address) (s : Sheet) → let t = address_set a s in
    SameShift s t × SameEntry s t × SameScreen s t × SameFunction s t × SameDisplay s t × SamePattern s t × SameWritten s t
set_keeps a s = (refl, (refl, refl), (refl, refl, refl), (refl, refl), refl, refl, refl)

-- a pattern write: all but the address and pattern memory, the shift among it (slip 3)
pub pattern_write_keeps : (p : PatternAddress) (byte : ℕ) (s : Sheet) → let t = written_at (Pattern p) byte s in
    SameShift s t × SameEntry s t × SameScreen s t × SameFunction s t × SameDisplay s t × SameWritten s t
pattern_write_keeps p byte s = (refl, (refl, refl), (refl, refl, refl), (refl, refl), refl, refl)

-- a display write: all but the address, the shift and display memory
pub display_write_keeps : (d : DisplayAddress) (byte : ℕ) (s : Sheet) → let t = written_at (Display d) byte s in
    SameEntry s t × SameScreen s t × SameFunction s t × SamePattern s t
display_write_keeps d byte s = by s.registers.follow
  where
    by : (b : Bool) → let t = followed b (next_good false (stepped s.registers.up (stored_at (Display d) byte s))) in
        SameEntry s t × SameScreen s t × SameFunction s t × SamePattern s t
    by true = ((refl, refl), (refl, refl, refl), (refl, refl), refl)
    by false = ((refl, refl), (refl, refl, refl), (refl, refl), refl)

-- with S = 0 a display write leaves the shift too
pub still_write_keeps : (d : DisplayAddress) (byte : ℕ) (s : Sheet) → s.registers.follow ≡ false → SameShift s (written_at (Display d) byte s)
still_write_keeps d byte s e = ap (λ b. (followed b (next_good false (stepped s.registers.up (stored_at (Display d) byte s)))).registers.shift) e

-- a value stored round a memory of n places reads back
back : (n a v : ℕ) (m : List ℕ) → 0 < n → n ≤ length m → get_or (set m (a % n) v) (a % n) 0 ≡ v
back n a v m z h = get_or-set_same m (a % n) v 0 (omega (arith, mod-lt a z))

-- what was just written reads back: all of a byte in display memory, the low five bits in pattern memory
pub display_back : (chip : ℕ) (d : DisplayAddress) (byte : ℕ) (m : List ℕ) → display_size ≤ length m → read_display chip d (written_display chip d byte m) ≡ byte
display_back chip d byte m h = back (places_of chip) d.0 byte m (places chip).some (omega (arith, h, (places chip).fits))

pub pattern_back : (p : PatternAddress) (byte : ℕ) (m : List ℕ) → pattern_size ≤ length m → read_pattern p (written_pattern p byte m) ≡ byte % row_end
pattern_back p byte m h = ap (λ x. x % row_end) (back pattern_size p.0 (byte % row_end) m (omega arith) h) ∙ mod-mod byte row_end

-- and every other place stays as it was, whatever part of a byte the memory keeps
others : (part : ℕ → ℕ) (n a b v : ℕ) (m : List ℕ) → (b % n ≡ a % n → ⊥) → part (get_or (set m (a % n) v) (b % n) 0) ≡ part (get_or m (b % n) 0)
others part n a b v m d = ap part (get_or-set_other m (a % n) (b % n) v 0 d)

pub display_others : (chip : ℕ) (d e : DisplayAddress) (byte : ℕ) (m : List ℕ) → (e.0 % places_of chip ≡ d.0 % places_of chip → ⊥) → read_display chip e (written_display chip d byte m) ≡ read_display chip e m
display_others chip d e byte m n = others (λ x. x) (places_of chip) d.0 e.0 byte m n

pub pattern_others : (p q : PatternAddress) (byte : ℕ) (m : List ℕ) → (q.0 % pattern_size ≡ p.0 % pattern_size → ⊥) → read_pattern q (written_pattern p byte m) ≡ read_pattern q m
pattern_others p q byte m n = others (λ x. x % row_end) pattern_size p.0 q.0 (byte % row_end) m n

-- an address has seven bits at most, since neither memory has more than 128 places
round_small : (n a : ℕ) → 0 < n → n ≤ 128 → a % n < 128
round_small n a z h = omega (arith, h, mod-lt a z)

pub number_small : (chip : ℕ) (a : Address) → address_number chip a < 128
number_small chip (Display d) = round_small (places_of chip) d.0 (places chip).some (omega (arith, (places chip).fits))
number_small chip (Pattern p) = round_small pattern_size p.0 (omega arith) (omega arith)
