-- THE TABLE OF SOUNDNESS (document 01, "The panel"): each clause at its edge, all else being in range.
use Rattle.std.specs.Prelude.{ℕ, refl, Bool, true, false, List, [], ◌∷◌}
use Rattle.mirror.specs.Panel.{sound_panel}
use Rattle.mirror.specs.declared.half.Half.{Half}
use Rattle.mirror.specs.declared.half.Half.TheVariants.{Empty}
use Rattle.mirror.specs.declared.panel.Panel.{Panel}
use Rattle.chip.specs.declared.address.Address.{Address}
use Rattle.demands.specs.cases.RowCases.{Hold, recording, shows, draws, regs, down, up, codes, memory_of, dots, with, panel_with, panel, panel_on, doubted, held, missed, afresh_of, afresh}

-- a display memory of one line; an address on two lines
abbrev stored : List ℕ → Panel
stored display = panel_with (down 8) display dots 900 Empty 800

abbrev at_on_two : Address → Panel
at_on_two address = panel_on 35 (regs address 6 0 1 1 0 1 8 5) 900 Empty 800

-- an address; a shift; Function Set bits; a pattern memory; a width and what waits at it; a busy end; a last time
abbrev at : Address → Panel
at address = panel (regs address 6 0 1 1 0 1 8 5) 900 Empty 800

abbrev shifted : ℕ → Panel
shifted shift = panel (regs (draws 22) shift 0 1 1 0 1 8 5) 900 Empty 800

abbrev kept : ℕ → Panel
kept bits = panel (regs (shows 9) 6 0 1 1 0 1 8 bits) 900 Empty 800

abbrev drawn : List ℕ → Panel
drawn pattern = panel_with (down 8) codes pattern 900 Empty 800

abbrev waits : ℕ → Half → Panel
waits width half = panel (down width) 900 half 800

abbrev until : ℕ → Panel
until busy = panel (down 8) busy Empty 800

abbrev since : ℕ → Panel
since last = panel (down 8) 900 Empty last

abbrev clauses : List (Panel × Bool)
clauses =
    (afresh 0 0, true)
    -- the chip: 31 and 35, and no other
    ∷ (afresh_of 35 0 0, true)
    ∷ (afresh_of 0 0 0, false)
    ∷ (afresh_of 30 0 0, false)
    ∷ (afresh_of 32 0 0, false)
    ∷ (afresh_of 34 0 0, false)
    ∷ (afresh_of 36 0 0, false)
    ∷ (afresh_of 255 0 0, false)
    -- on one line the places past it are 20h, the first, the last and one between; on two lines they hold any byte, as the others do
    ∷ (stored (with 16 0x21 codes), false)
    ∷ (stored (with 31 0x00 codes), false)
    ∷ (stored (with 23 0xa0 codes), false)
    ∷ (stored (with 16 0x20 codes), true)
    ∷ (panel_with (down 8) (memory_of 35) dots 900 Empty 800, false)
    ∷ (panel_on 35 (down 8) 900 Empty 800, true)
    -- two lines have 32 display addresses, and one shift of 0 to 15
    ∷ (at_on_two (shows 16), true)
    ∷ (at_on_two (shows 31), true)
    ∷ (at_on_two (shows 32), false)
    ∷ (at_on_two (draws 31), true)
    ∷ (at_on_two (draws 32), false)
    ∷ (panel_on 35 (regs (shows 9) 15 0 1 1 0 1 8 5) 900 Empty 800, true)
    ∷ (panel_on 35 (regs (shows 9) 16 0 1 1 0 1 8 5) 900 Empty 800, false)
    -- the address in its memory, the shift, the Function Set bits
    ∷ (at (shows 0), true)
    ∷ (at (shows 15), true)
    ∷ (at (shows 16), false)
    ∷ (at (shows 31), false)
    ∷ (at (draws 16), true)
    ∷ (at (draws 31), true)
    ∷ (at (draws 32), false)
    ∷ (shifted 15, true)
    ∷ (shifted 16, false)
    ∷ (kept 15, true)
    ∷ (kept 16, false)
    -- pattern entries at most 31, at the first place, the last and between; display memory holds any byte
    ∷ (drawn (with 0 31 dots), true)
    ∷ (drawn (with 0 32 dots), false)
    ∷ (drawn (with 13 32 dots), false)
    ∷ (drawn (with 31 31 dots), true)
    ∷ (drawn (with 31 32 dots), false)
    ∷ (panel_with (up 4) (with 0 0xff (with 15 0x00 codes)) dots 900 Empty 800, true)
    -- no half at width 8; at width 4 a nibble of four bits, whatever its RS and R/W
    ∷ (waits 4 Empty, true)
    ∷ (waits 4 (held 0 0 15), true)
    ∷ (waits 4 (held 0 1 15), true)
    ∷ (waits 4 (held 1 0 15), true)
    ∷ (waits 4 (held 1 1 15), true)
    ∷ (waits 4 (held 0 0 16), false)
    ∷ (waits 4 (held 0 1 16), false)
    ∷ (waits 4 (held 1 0 16), false)
    ∷ (waits 4 (held 1 1 16), false)
    ∷ (waits 8 (held 0 0 5), false)
    ∷ (waits 8 (held 0 1 5), false)
    ∷ (waits 8 (held 1 1 5), false)
    ∷ (waits 8 (missed 0 0), false)
    ∷ (waits 8 (missed 1 0), false)
    -- where the next read is not good a read half may wait with any nibble (document 02, wish 2, names no refusal)
    ∷ (panel (doubted (up 4)) 900 (held 1 1 0) 800, true)
    ∷ (panel (doubted (up 4)) 900 (held 1 1 7) 800, true)
    ∷ (panel (doubted (up 4)) 900 (held 1 1 16) 800, false)
    -- no status half marked ignored
    ∷ (waits 4 (missed 0 0), true)
    ∷ (waits 4 (missed 1 0), true)
    ∷ (waits 4 (missed 1 1), true)
    ∷ (waits 4 (missed 0 1), false)
    -- last time below 2^48, busy end below 2^48 + 65,536, whichever is the later
    ∷ (since 0xffff_ffff_ffff, true)
    ∷ (since 0x1_0000_0000_0000, false)
    ∷ (until 0, true)
    ∷ (until 0x1_0000_0000_0000, true)
    ∷ (until 0x1_0000_0000_ffff, true)
    ∷ (until 0x1_0000_0001_0000, false)
    ∷ []

pub soundness_computed : Hold sound_panel clauses
unfolding recording
soundness_computed = refl
