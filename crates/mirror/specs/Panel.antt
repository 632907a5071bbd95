-- The panel (document 01, "The panel").
use Rattle.std.specs.Prelude.{ℕ, ◌+◌, ◌^◌, Bool, true, false, not, ltb, leb}
use Rattle.laws.specs.Pick.{pick}
use Rattle.chip.specs.Sheet.{fresh_sheet}
use Rattle.chip.specs.Sound.{sound_sheet}
use Rattle.mirror.specs.declared.half.Half.{Half}
use Rattle.mirror.specs.declared.half.Half.TheVariants.{Empty, Ignored, Waiting}
use Rattle.mirror.specs.declared.panel.Panel.{Panel}

-- fresh: a fresh sheet of the chip, busy end 0, last time 0, no half; the chip and the three times are given
abbrev pub fresh_panel : ℕ → ℕ → ℕ → ℕ → Panel
fresh_panel chip reset long short =
    record {
      sheet = fresh_sheet chip;
      busy = 0;
      half = Empty;
      times = record { reset = reset; long = long; short = short };
      last = 0;
    }

-- a waiting half lies in range: none waits at width 8, no status half is marked ignored, a nibble is at most 15
abbrev pub half_fits : Bool → Half → Bool
half_fits eight Empty = true
half_fits eight (Ignored rs reads) = pick eight false (pick rs true (not reads))
half_fits eight (Waiting rs reads nibble) = pick eight false (ltb nibble 16)

-- times are below 2^48
abbrev pub time_end : ℕ
time_end = 2 ^ 48

-- sound: the sheet and the waiting half lie in range, last time is below 2^48 and busy end below 2^48 + 65,536
abbrev pub sound_panel : Panel → Bool
sound_panel p =
    pick (not (sound_sheet p.sheet)) false
    (pick (not (half_fits p.sheet.registers.eight p.half)) false
    (pick (leb time_end p.last) false (ltb p.busy (time_end + 65536))))
