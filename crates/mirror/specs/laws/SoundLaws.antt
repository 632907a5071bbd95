-- A sound panel stays sound, whatever record it is given.
use Rattle.std.specs.Prelude.{ℕ, ◌%◌, ◌/◌, ◌<◌, ◌≤◌, ◌≡◌, refl, Bool, true, false, not, ◌&&◌, List}
use Rattle.std.proofs.Common.{sym, ◌∙◌, arith, mod-lt, leb-true, leb-false, lt-ltb}
use Rattle.std.proofs.lemmas.Bool.{false≢true}
use Rattle.laws.specs.Pick.{pick}
use Rattle.framing.specs.Frame.{time_of, data_of, rs_of, rw_of, is_reset, late_time, bad_at}
use Rattle.framing.specs.laws.FrameLaws.{time_bad}
use Rattle.chip.specs.Sheet.{fresh_sheet}
use Rattle.chip.specs.Step.{obeyed, written, passed}
use Rattle.chip.specs.Sizes.{is_known}
use Rattle.chip.proofs.laws.SoundLaws as steps
use Rattle.mirror.specs.Panel.{fresh_panel, half_fits, time_end, sound_panel}
use Rattle.mirror.specs.Words.{free, holding, done}
use Rattle.mirror.specs.laws.SoundParts.{Sound, parts, whole}
use Rattle.mirror.specs.Table.{waits, busy_at, source_of, byte_of, held_half, ignored_half, sheet_for, is_long, span_for, panel_for}
use Rattle.mirror.specs.Answers.{panel_after}
use Rattle.mirror.specs.laws.TableCase.{each_row}
use Rattle.mirror.specs.Case.{Heard, Case}
use Rattle.mirror.specs.Case.Case.{unsound, cut, bad, back, reset, torn, ignored, nothing, held, status, doubtful, taken}
use Rattle.mirror.specs.declared.half.Half.{Half}
use Rattle.mirror.specs.declared.half.Half.TheVariants.{Empty, Ignored, Waiting}
use Rattle.mirror.specs.declared.panel.Panel.{Panel}
use Rattle.mirror.specs.declared.panel.Times.{Times}

-- the three times are of 0 to 65,535 microseconds
pub record TimesFit (t : Times) : Type 0 where
  pub reset : t.reset ≤ 65535
  pub long : t.long ≤ 65535
  pub short : t.short ≤ 65535

-- what lasts from record to record
pub record Lasts (p : Panel) : Type 0 where
  pub sound : Sound p
  pub times : TimesFit p.times

pub fresh_parts : (chip reset long short : ℕ) → is_known chip ≡ true → Sound (fresh_panel chip reset long short)
fresh_parts chip r l s k = record { sheet = steps.fresh_sound chip k; half = refl; last = omega arith; busy = omega arith }

pub fresh_lasts : (chip reset long short : ℕ) → is_known chip ≡ true → reset ≤ 65535 → long ≤ 65535 → short ≤ 65535 → Lasts (fresh_panel chip reset long short)
fresh_lasts chip r l s k a b c = record { sound = fresh_parts chip r l s k; times = record { reset = a; long = b; short = c } }

-- a first half that is marked ignored is no status half
ignored_fits : (eight : Bool) (half : Half) (rs reads busy : Bool) → busy_at half (not (reads && not rs) && busy) ≡ true →
    half_fits eight (pick (not eight && not (waits half)) (Ignored rs reads) Empty) ≡ true
ignored_fits true half rs reads busy e = refl
ignored_fits false (Ignored r w) rs reads busy e = refl
ignored_fits false (Waiting r w nibble) rs reads busy e = refl
ignored_fits false Empty true reads busy e = refl
ignored_fits false Empty false false busy e = refl
ignored_fits false Empty false true busy e = absurd (false≢true e)

-- a first half comes at width 4
held_fits : (eight : Bool) (half : Half) (rs reads : Bool) (nibble : ℕ) → (not eight && not (waits half)) ≡ true → nibble < 16 →
    half_fits eight (Waiting rs reads nibble) ≡ true
held_fits true half rs reads nibble f n = absurd (false≢true f)
held_fits false half rs reads nibble f n = lt-ltb nibble 16 n

-- times are below 2^48
good_time : (log : List ℕ) → bad_at log ≡ false → time_of log < time_end
good_time log g = by (late_time log) refl where
  by : (b : Bool) → late_time log ≡ b → time_of log < time_end
  by true e = absurd (false≢true (sym g ∙ time_bad log (leb-true time_end (time_of log) e)))
  by false e = leb-false time_end (time_of log) e

module _ (p : Panel) (log : List ℕ) (small : data_of log < 256) (h : Lasts p) where
  nibble_fits : (b : Bool) → pick b (source_of p log % 16) (data_of log / 16) < 16
  nibble_fits true = mod-lt (source_of p log) (omega arith)
  nibble_fits false = omega arith

  sheet_sound : (a b c : Bool) →
      steps.Sound (pick a (fresh_sheet p.sheet.registers.chip) (pick b (pick c (passed p.sheet) (written (byte_of p log) p.sheet)) (obeyed (byte_of p log) p.sheet)))
  sheet_sound true b c = steps.fresh_sound p.sheet.registers.chip h.sound.sheet.known
  sheet_sound false true true = steps.passed_sound p.sheet h.sound.sheet
  sheet_sound false true false = steps.written_sound (byte_of p log) p.sheet h.sound.sheet
  sheet_sound false false c = steps.obeyed_sound (byte_of p log) p.sheet h.sound.sheet

  span_fits : (a b : Bool) → pick a p.times.reset (pick b p.times.long p.times.short) ≤ 65535
  span_fits true b = h.times.reset
  span_fits false true = h.times.long
  span_fits false false = h.times.short

  module _ (heard : Heard p log) where
    holding_lasts : (half : Half) → half_fits p.sheet.registers.eight half ≡ true → Lasts (holding (time_of log) half p)
    holding_lasts half f =
        let t = good_time log heard.good in
        record { sound = record { sheet = h.sound.sheet; half = f; last = t; busy = h.sound.busy }; times = h.times }

    -- no half waits after a Function Set to width 8, as after anything carried out
    done_lasts : Lasts (done (time_of log) (sheet_for p log) (span_for p log) p)
    done_lasts =
        let t = good_time log heard.good in
        let l = span_fits (is_reset log) (is_long p log) in
        record {
          sound = record { sheet = sheet_sound (is_reset log) (rs_of log) (rw_of log); half = refl; last = t; busy = omega arith };
          times = h.times;
        }

  row_lasts : (n : ℕ) → Case p log n → Lasts (panel_for n p log)
  row_lasts n (unsound a) = h
  row_lasts n (cut a b) = h
  row_lasts n (bad a b c) = h
  row_lasts n (back a b c d) = h
  row_lasts n (reset c a) = done_lasts c
  row_lasts n (torn c a b) = holding_lasts c Empty refl
  row_lasts n (ignored c a) =
      holding_lasts c.heard (ignored_half p log)
      (ignored_fits p.sheet.registers.eight p.half (rs_of log) (rw_of log) (not (free (time_of log) p)) a)
  row_lasts n (nothing c a b) = holding_lasts c.heard Empty refl
  row_lasts n (held c a) =
      let nibble = pick (rw_of log) (source_of p log % 16) (data_of log / 16) in
      holding_lasts c.paired.heard (held_half p log)
      (held_fits p.sheet.registers.eight p.half (rs_of log) (rw_of log) nibble a (nibble_fits (rw_of log)))
  row_lasts n (status c a b) = holding_lasts c.paired.heard Empty refl
  row_lasts n (doubtful c a b d) = done_lasts c.paired.heard
  row_lasts n (taken c a b d) = done_lasts c.paired.heard

-- every answer leaves a sound panel sound, its busy end below 2^48 + 65,536 since a time is below 2^48
pub record_lasts : (p : Panel) (log : List ℕ) → data_of log < 256 → Lasts p → Lasts (panel_after p log)
record_lasts p log small h = each_row p log (λ n q. Lasts q) (row_lasts p log small h)

-- in the words of the test that `record` makes
pub fresh_sound : (chip reset long short : ℕ) → is_known chip ≡ true → sound_panel (fresh_panel chip reset long short) ≡ true
fresh_sound chip r l s k = whole (fresh_panel chip r l s) (fresh_parts chip r l s k)

pub record_sound : (p : Panel) (log : List ℕ) → data_of log < 256 → TimesFit p.times → sound_panel p ≡ true → sound_panel (panel_after p log) ≡ true
record_sound p log small t e = whole (panel_after p log) (record_lasts p log small (record { sound = parts p e; times = t })).sound
