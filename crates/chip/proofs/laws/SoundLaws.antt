-- A sound sheet stays sound under every step.
use Rattle.std.specs.Prelude.{ℕ, zero, suc, ◌*◌, ◌%◌, ◌<◌, ◌≡◌, refl, Bool, true, false, not, List, [], ◌∷◌, set, drop, replicate, ltb, leb, eqb}
use Rattle.std.proofs.Common.{sym, ap, ◌∙◌, arith, mod-lt, leb-false, eqb-true, eq-eqb, lt-ltb}
use Rattle.std.specs.List.{list_all}
use Rattle.std.proofs.lemmas.Bool.{not-false, lt-leb, and_parts, and_from}
use Rattle.laws.specs.Pick.{pick}
use Rattle.laws.specs.Ring.{moved}
use Rattle.laws.specs.Bit.{with_bit}
use Rattle.laws.specs.laws.PickLaws.{past}
use Rattle.laws.specs.laws.RingLaws.{moved_below}
use Rattle.chip.specs.Sizes.{is_known, two_lines, positions, places_of, display_size, pattern_size, row_end, function_end, space}
use Rattle.chip.specs.Address.{display, pattern, moved_address, in_display}
use Rattle.chip.specs.Sheet.{fresh_sheet}
use Rattle.chip.specs.Instruction.{is_set, unset, decoded}
use Rattle.chip.specs.Step.{homed, cleared, entered, screen_set, stepped, shifted, function_set, address_set, next_good, acted, obeyed, stored_at, followed, shifts_at, written, passed}
use Rattle.chip.specs.Written.{is_written, written_in}
use Rattle.chip.specs.Sound.{address_fits, blank_past, pattern_fits, sound_sheet}
use Rattle.chip.proofs.laws.SizesLaws.{places}
use Rattle.chip.proofs.laws.WrittenLaws.{walk_stored, walk_blank}
use Rattle.chip.specs.declared.address.Address.{Address}
use Rattle.chip.specs.declared.address.Address.TheVariants.{Display, Pattern}
use Rattle.chip.specs.declared.instruction.Instruction.{Instruction}
use Rattle.chip.specs.declared.instruction.Instruction.TheVariants.{Nothing, Clear, Home, Entry, Screen, Move, Shift, Function, Set}
use Rattle.chip.specs.declared.sheet.Sheet.{Sheet}

-- soundness, part by part
pub record Sound (s : Sheet) : Type 0 where
  pub known : is_known s.registers.chip ≡ true
  pub address : address_fits s.registers.chip s.registers.address ≡ true
  pub shift : s.registers.shift < positions
  pub function : s.registers.function < function_end
  pub blank : blank_past s.registers.chip s.display ≡ true
  pub written : s.registers.written ≡ written_in display_size s.display
  pub entries : pattern_fits s.pattern ≡ true

pub parts : (s : Sheet) → sound_sheet s ≡ true → Sound s
parts s e =
    let r = s.registers in
    let n = past (not (is_known r.chip)) e in
    let a = past (not (address_fits r.chip r.address)) n.later in
    let b = past (leb positions r.shift) a.later in
    let c = past (leb function_end r.function) b.later in
    let d = past (not (blank_past r.chip s.display)) c.later in
    let agree = eqb r.written (written_in display_size s.display) in
    let w = past (not agree) d.later in
    record {
      known = not-false (is_known r.chip) n.here;
      address = not-false (address_fits r.chip r.address) a.here;
      shift = leb-false positions r.shift b.here;
      function = leb-false function_end r.function c.here;
      blank = not-false (blank_past r.chip s.display) d.here;
      written = eqb-true r.written (written_in display_size s.display) (not-false agree w.here);
      entries = w.later;
    }

pub whole : (s : Sheet) → Sound s → sound_sheet s ≡ true
whole s h =
    by (is_known s.registers.chip) (address_fits s.registers.chip s.registers.address) (leb positions s.registers.shift)
    (leb function_end s.registers.function) (blank_past s.registers.chip s.display)
    (eqb s.registers.written (written_in display_size s.display)) (pattern_fits s.pattern) h.known h.address
    (lt-leb positions s.registers.shift h.shift) (lt-leb function_end s.registers.function h.function) h.blank
    (eq-eqb s.registers.written (written_in display_size s.display) h.written) h.entries
  where
    by : (k a b c d w e : Bool) → k ≡ true → a ≡ true → b ≡ false → c ≡ false → d ≡ true → w ≡ true → e ≡ true →
        pick (not k) false (pick (not a) false (pick b false (pick c false (pick (not d) false (pick (not w) false e))))) ≡ true
    by k a b c d w e hk ha hb hc hd hw he = rw (hk, ha, hb, hc, hd, hw, he)

-- an address that moves stays in its memory, whatever its size
round_fits : (n : ℕ) (up : Bool) (a : ℕ) → 0 < n → ltb (moved n up a) n ≡ true
round_fits n up a z = lt-ltb _ n (moved_below n up a z)

moved_fits : (chip : ℕ) (up : Bool) (a : Address) → address_fits chip (moved_address chip up a) ≡ true
moved_fits chip up (Display d) = round_fits (places_of chip) up d.0 (places chip).some
moved_fits chip up (Pattern p) = round_fits pattern_size up p.0 (omega arith)

-- a number that passes a test stored among such numbers
set_all : (test : ℕ → Bool) (l : List ℕ) (i x : ℕ) → test x ≡ true → list_all test l ≡ true → list_all test (set l i x) ≡ true
set_all test [] i x h e = refl
set_all test (y ∷ l) zero x h e = and_from _ _ h (and_parts _ _ e).1
set_all test (y ∷ l) (suc i) x h e = let p = and_parts (test y) (list_all test l) e in and_from _ _ p.0 (set_all test l i x h p.1)

-- what is stored before a place leaves what lies past it
drop_set : (l : List ℕ) (n i x : ℕ) → i < n → drop n (set l i x) ≡ drop n l
drop_set [] n i x h = refl
drop_set (y ∷ l) zero i x h = absurd (omega arith)
drop_set (y ∷ l) (suc n) zero x h = refl
drop_set (y ∷ l) (suc n) (suc i) x h = drop_set l n i x (omega arith)

-- a memory that is blank throughout is blank past any chip's places
cleared_blank : (chip : ℕ) → blank_past chip (replicate display_size space) ≡ true
cleared_blank chip = by (eqb chip two_lines)
  where
    by : (b : Bool) → list_all (λ x. eqb x space) (drop (pick b 2 1 * positions) (replicate display_size space)) ≡ true
    by true = refl
    by false = refl

-- a chip has a first place
first_fits : (chip : ℕ) → address_fits chip (Display (display 0)) ≡ true
first_fits chip = lt-ltb 0 (places_of chip) (places chip).some

pub fresh_sound : (chip : ℕ) → is_known chip ≡ true → Sound (fresh_sheet chip)
fresh_sound chip k =
    record { known = k; address = first_fits chip; shift = omega arith; function = omega arith; blank = cleared_blank chip; written = sym (walk_blank display_size); entries = refl }

pub homed_sound : (s : Sheet) → Sound s → Sound (homed s)
homed_sound s h = record { known = h.known; address = first_fits s.registers.chip; shift = omega arith; function = h.function; blank = h.blank; written = h.written; entries = h.entries }

pub cleared_sound : (s : Sheet) → Sound s → Sound (cleared s)
cleared_sound s h = record { known = h.known; address = first_fits s.registers.chip; shift = omega arith; function = h.function; blank = cleared_blank s.registers.chip; written = sym (walk_blank display_size); entries = h.entries }

pub entered_sound : (up follow : Bool) (s : Sheet) → Sound s → Sound (entered up follow s)
entered_sound up follow s h = record { known = h.known; address = h.address; shift = h.shift; function = h.function; blank = h.blank; written = h.written; entries = h.entries }

pub lit_sound : (on cursor blink : Bool) (s : Sheet) → Sound s → Sound (screen_set on cursor blink s)
lit_sound on cursor blink s h = record { known = h.known; address = h.address; shift = h.shift; function = h.function; blank = h.blank; written = h.written; entries = h.entries }

pub stepped_sound : (up : Bool) (s : Sheet) → Sound s → Sound (stepped up s)
stepped_sound up s h = record { known = h.known; address = moved_fits s.registers.chip up s.registers.address; shift = h.shift; function = h.function; blank = h.blank; written = h.written; entries = h.entries }

pub shifted_sound : (left : Bool) (s : Sheet) → Sound s → Sound (shifted left s)
shifted_sound left s h =
    record { known = h.known; address = h.address; shift = moved_below positions left s.registers.shift (omega arith); function = h.function; blank = h.blank; written = h.written; entries = h.entries }

pub function_set_sound : (eight : Bool) (bits : ℕ) (s : Sheet) → bits < function_end → Sound s → Sound (function_set eight bits s)
function_set_sound eight bits s b h = record { known = h.known; address = h.address; shift = h.shift; function = b; blank = h.blank; written = h.written; entries = h.entries }

pub address_set_sound : (a : Address) (s : Sheet) → address_fits s.registers.chip a ≡ true → Sound s → Sound (address_set a s)
address_set_sound a s f h = record { known = h.known; address = f; shift = h.shift; function = h.function; blank = h.blank; written = h.written; entries = h.entries }

-- whether the next read is good has no say in it
good_sound : (good : Bool) (s : Sheet) → Sound s → Sound (next_good good s)
good_sound good s h = record { known = h.known; address = h.address; shift = h.shift; function = h.function; blank = h.blank; written = h.written; entries = h.entries }

-- what a code sets lies in range, on its chip
data Fits (chip : ℕ) : Instruction → Type 0 where
  plain : (i : Instruction) → ((s : Sheet) → s.registers.chip ≡ chip → Sound s → Sound (acted i s)) → Fits chip i

decoded_fits : (chip code : ℕ) → Fits chip (decoded chip code)
decoded_fits chip code =
    by (ltb code 0x01) (plain Nothing (λ s c h. h))
    (by (ltb code 0x02) (plain Clear (λ s c h. good_sound false (cleared s) (cleared_sound s h)))
    (by (ltb code 0x04) (plain Home (λ s c h. good_sound false (homed s) (homed_sound s h)))
    (by (ltb code 0x08) (plain (Entry (is_set 2 code) (is_set 1 code)) (λ s c h. good_sound false (entered (is_set 2 code) (is_set 1 code) s) (entered_sound (is_set 2 code) (is_set 1 code) s h)))
    (by (ltb code 0x10) (plain (Screen (is_set 4 code) (is_set 2 code) (is_set 1 code)) (λ s c h. good_sound false (screen_set (is_set 4 code) (is_set 2 code) (is_set 1 code) s) (lit_sound (is_set 4 code) (is_set 2 code) (is_set 1 code) s h)))
    (by (ltb code 0x18) (plain (Move (is_set 4 code)) (λ s c h. good_sound (in_display s.registers.address) (stepped (is_set 4 code) s) (stepped_sound (is_set 4 code) s h)))
    (by (ltb code 0x20) (plain (Shift (unset 4 code)) (λ s c. shifted_sound (unset 4 code) s))
    (by (ltb code 0x40) (plain (Function (is_set 0x10 code) (code % function_end)) (λ s c h. good_sound false (function_set (is_set 0x10 code) (code % function_end) s) (function_set_sound (is_set 0x10 code) (code % function_end) s (mod-lt code (omega arith)) h)))
    (by (ltb code 0x80)
    (plain (Set (Pattern (pattern (code % pattern_size)))) (λ s c h. good_sound true (address_set (Pattern (pattern (code % pattern_size))) s) (address_set_sound (Pattern (pattern (code % pattern_size))) s (lt-ltb _ pattern_size (mod-lt code (omega arith))) h)))
    (plain (Set (Display (display (code % places_of chip)))) (λ s c h. good_sound true (address_set (Display (display (code % places_of chip))) s) (address_set_sound (Display (display (code % places_of chip))) s (on s c) h)))))))))))
  where
    by : (b : Bool) {x y : Instruction} → Fits chip x → Fits chip y → Fits chip (pick b x y)
    by true p q = p
    by false p q = q

    on : (s : Sheet) → s.registers.chip ≡ chip → ltb (code % places_of chip) (places_of s.registers.chip) ≡ true
    on s c = ap (λ (x : ℕ). ltb (code % places_of chip) (places_of x)) c ∙ lt-ltb _ (places_of chip) (mod-lt code (places chip).some)

-- every code leaves a sound sheet sound
pub obeyed_sound : (code : ℕ) (s : Sheet) → Sound s → Sound (obeyed code s)
obeyed_sound code s h = each (decoded_fits s.registers.chip code)
  where
    each : {i : Instruction} → Fits s.registers.chip i → Sound (acted i s)
    each (plain i f) = f s refl h

stored_sound : (a : Address) (byte : ℕ) (s : Sheet) → Sound s → Sound (stored_at a byte s)
stored_sound (Display d) byte s h =
    let n = places_of s.registers.chip in
    let kept = drop_set s.display n (d.0 % n) byte (mod-lt d.0 (places s.registers.chip).some) in
    record {
      known = h.known;
      address = h.address;
      shift = h.shift;
      function = h.function;
      blank = ap (list_all (λ x. eqb x space)) kept ∙ h.blank;
      written = ap (with_bit display_size (d.0 % n) (is_written (set s.display (d.0 % n) byte) (d.0 % n))) h.written ∙ walk_stored display_size s.display (d.0 % n) byte;
      entries = h.entries;
    }
stored_sound (Pattern p) byte s h =
    record {
      known = h.known;
      address = h.address;
      shift = h.shift;
      function = h.function;
      blank = h.blank;
      written = h.written;
      entries = set_all (λ x. ltb x row_end) s.pattern (p.0 % pattern_size) (byte % row_end) (lt-ltb _ row_end (mod-lt byte (omega arith))) h.entries;
    }

followed_sound : (shifts : Bool) (s : Sheet) → Sound s → Sound (followed shifts s)
followed_sound true s h = shifted_sound s.registers.up s h
followed_sound false s h = h

-- so does a data write
pub written_sound : (byte : ℕ) (s : Sheet) → Sound s → Sound (written byte s)
written_sound byte s h =
    let a = s.registers.address in
    let t = stepped s.registers.up (stored_at a byte s) in
    followed_sound (shifts_at a s.registers.follow) (next_good false t)
    (good_sound false t (stepped_sound s.registers.up (stored_at a byte s) (stored_sound a byte s h)))

-- and a data read
pub passed_sound : (s : Sheet) → Sound s → Sound (passed s)
passed_sound s h = good_sound true (stepped s.registers.up s) (stepped_sound s.registers.up s h)
