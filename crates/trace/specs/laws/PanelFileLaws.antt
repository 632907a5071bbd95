-- Fields of a panel file: the number or the memory that a range of bytes holds, and what was read where it could be.
use Rattle.std.specs.Prelude.{◌≡◌, ℕ, ◌+◌, ◌-◌, ◌*◌, ◌≤◌, ◌<◌, Bool, true, false, List, length, drop, slice_index, slice_range, Option, Some, None, Result, Ok, Err, refl}
use Rattle.std.specs.Option.{ok_or}
use Rattle.std.proofs.Common.{sym, ap, ◌∙◌, arith, length-take, length-drop, get_or-take, get_or-drop, ext_get_or, eq-eqb}
use Rattle.laws.specs.Pick.{pick}
use Rattle.framing.specs.Frame.{num16, num64}
use Rattle.dots.specs.Table.{table}
use Rattle.dots.specs.laws.TableLaws.{length_table, get_d_table}
use Rattle.chip.specs.declared.address.Address.{Address}
use Rattle.chip.specs.declared.registers.Registers.{Registers}
use Rattle.mirror.specs.declared.half.Half.{Half}
use Rattle.mirror.specs.declared.panel.Panel.{Panel}
use Rattle.trace.specs.PanelFile.{address_in, bits_fit, bool_in, bool_of, byte_in, display_in, file_panel, fits_in, half_holds, half_in, is_bool, num32, panel_told, panel_size, pattern_in, registers_in, width_of}
use Rattle.trace.specs.declared.panel_file.Misfit.{Misfit}
use Rattle.trace.specs.declared.panel_file.Misfit.TheVariants.{Byte}

module _ (b : List ℕ) (at n : ℕ) (r : List ℕ) (is : r ≡ slice_range b at (at + n)) (within : at + n ≤ length b) where
  -- byte i of a range
  pub byte_ranged : (i j : ℕ) → i < n → at + i ≡ j → slice_index r i ≡ byte_in b j
  byte_ranged i j h e =
      ap (λ (s : List ℕ). slice_index s i) is ∙ get_or-take (at + n - at) (drop at b) i 0 (omega arith) ∙ get_or-drop at b i 0
      ∙ ap (byte_in b) e

  -- a range is the table of its bytes
  pub table_ranged : r ≡ table (λ i. byte_in b (at + i)) n
  table_ranged =
      ext_get_or 0 r (table (λ i. byte_in b (at + i)) n) (long ∙ sym (length_table (λ i. byte_in b (at + i)) n))
      (λ k h. byte_ranged k (at + k) (omega (arith, long)) refl ∙ sym (get_d_table (λ i. byte_in b (at + i)) n k 0 (omega (arith, long))))
    where
      long : length r ≡ n
      long = omega (arith, ap length is, length-take (at + n - at) (drop at b), length-drop at b)

-- the little-endian numbers of two, four and eight bytes
module _ (b : List ℕ) (at : ℕ) (r : List ℕ) where
  pub le_16 : r ≡ slice_range b at (at + 2) → at + 2 ≤ length b → slice_index r 0 + slice_index r 1 * 256 ≡ num16 b at
  unfolding num16
  le_16 is h = let byte = byte_ranged b at 2 r is h in
      omega (arith, byte 0 at (omega arith) (omega arith), byte 1 (at + 1) (omega arith) refl)

  pub le_32 : r ≡ slice_range b at (at + 4) → at + 4 ≤ length b
      → slice_index r 0 + slice_index r 1 * 256 + slice_index r 2 * 65536 + slice_index r 3 * 16777216 ≡ num32 b at
  unfolding num16
  le_32 is h = let byte = byte_ranged b at 4 r is h in
      omega (arith, byte 0 at (omega arith) (omega arith), byte 1 (at + 1) (omega arith) refl, byte 2 (at + 2) (omega arith) refl, byte 3 (at + 2 + 1) (omega arith) (omega arith))

  pub le_64 : r ≡ slice_range b at (at + 8) → at + 8 ≤ length b
      → slice_index r 0 + slice_index r 1 * 256 + slice_index r 2 * 65536 + slice_index r 3 * 16777216 + slice_index r 4 * 4294967296
      + slice_index r 5 * 1099511627776 + slice_index r 6 * 281474976710656 + slice_index r 7 * 72057594037927936 ≡ num64 b at
  unfolding num16 num64
  le_64 is h = let byte = byte_ranged b at 8 r is h in
      omega
      (arith, byte 0 at (omega arith) (omega arith), byte 1 (at + 1) (omega arith) refl, byte 2 (at + 2) (omega arith) refl, byte 3 (at + 2 + 1) (omega arith) (omega arith), byte 4 (at + 4) (omega arith) refl, byte 5 (at + 4 + 1) (omega arith) (omega arith), byte 6 (at + 6) (omega arith) refl, byte 7 (at + 6 + 1) (omega arith) (omega arith))

-- what was read, where it could be
pub record Read {A : Type 0} (fits : Bool) (held v : A) : Type 0 where
  pub could : fits ≡ true
  pub is : v ≡ held

pub read : {A : Type 0} (fits : Bool) (held v : A) → Some v ≡ pick fits (Some held) None → Read fits held v
read true held v e = record { could = refl; is = cc }
read false held v e = absurd (cc)

pub registers_read : (b : List ℕ) (a : Address) (up follow on cursor blink eight good : Bool) (w : ℕ)
    → Some a ≡ pick (is_bool b 65) (Some (address_in (byte_in b 65) (byte_in b 66))) None
    → Some up ≡ bool_of (byte_in b 68) → Some follow ≡ bool_of (byte_in b 69) → Some on ≡ bool_of (byte_in b 70)
    → Some cursor ≡ bool_of (byte_in b 71) → Some blink ≡ bool_of (byte_in b 72) → Some eight ≡ width_of (byte_in b 73)
    → Some good ≡ bool_of (byte_in b 101) → w ≡ num32 b 102
    → ◌≡◌ {A = Option Registers} (Some record {
      chip = byte_in b 0;
      address = a;
      shift = byte_in b 67;
      up = up;
      follow = follow;
      on = on;
      cursor = cursor;
      blink = blink;
      eight = eight;
      function = byte_in b 74;
      good = good;
      written = w;
    }) (pick (bits_fit b) (Some (registers_in b)) None)
registers_read b a up follow on cursor blink eight good w ea eu ef eo ec eb ee eg ew =
    let A = read _ _ _ ea in
    let U = read _ _ _ eu in
    let F = read _ _ _ ef in
    let O = read _ _ _ eo in
    let C = read _ _ _ ec in
    let B = read _ _ _ eb in
    let E = read _ _ _ ee in
    let G = read _ _ _ eg in
    rw (E.could, A.could, U.could, F.could, O.could, C.could, B.could, G.could) (cc (A.is, U.is, F.is, O.is, C.is, B.is, E.is, G.is, ew))

pub panel_read : (b : List ℕ) (r : Registers) (display pattern : List ℕ) (busy : ℕ) (half : Half) (reset long short last : ℕ)
    → Some r ≡ pick (bits_fit b) (Some (registers_in b)) None
    → Some half ≡ pick (half_holds (byte_in b 97) (byte_in b 98) (byte_in b 99) (byte_in b 100)) (Some (half_in (byte_in b 97) (bool_in b 98) (bool_in b 99) (byte_in b 100))) None
    → display ≡ display_in b → pattern ≡ pattern_in b → busy ≡ num64 b 81 → reset ≡ num16 b 75 → long ≡ num16 b 77 → short ≡ num16 b 79 → last ≡ num64 b 89
    → ◌≡◌ {A = Option Panel} (Some record {
      sheet = record { registers = r; display = display; pattern = pattern };
      busy = busy;
      half = half;
      times = record { reset = reset; long = long; short = short };
      last = last;
    }) (pick (fits_in b) (Some (file_panel b)) None)
panel_read b r display pattern busy half reset long short last er eh ed ep eb e0 e1 e2 el =
    let R = read _ _ _ er in
    let H = read _ _ _ eh in
    rw (R.could, H.could) (cc (R.is, H.is, ed, ep, eb, e0, e1, e2, el))

-- the bytes of a file are its bytes as an array
pub file_read : (file b : List ℕ) (o : Option Panel) (r : Result Panel Misfit) → length file ≡ panel_size → b ≡ file
    → o ≡ pick (fits_in b) (Some (file_panel b)) None → r ≡ ok_or o Byte → r ≡ panel_told file
file_read file b o r long same eo er = er ∙ ap (λ (p : Option Panel). ok_or p Byte) (eo ∙ ap (λ (s : List ℕ). pick (fits_in s) (Some (file_panel s)) None) same) ∙ rw (eq-eqb _ _ long) (by (fits_in file))
  where
    by : (t : Bool) → ok_or (pick t (Some (file_panel file)) None) Byte ≡ pick t (Ok (file_panel file)) (Err Byte)
    by true = refl
    by false = refl
