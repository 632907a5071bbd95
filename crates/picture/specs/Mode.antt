-- Mirrored glass (document 02, wish 5; its bit by source documents 000 and 002, "Function Set").
use Rattle.std.specs.Prelude.{ℕ, ◌*◌, ◌/◌, Bool, eqb}
use Rattle.laws.specs.Bit.{bit}
use Rattle.dots.specs.Landing.{Landing}
use Rattle.dots.specs.Turned.{Turn, turned, turned_if, backward, parts_backward}
use Rattle.chip.specs.Sizes.{lines_of}
use Rattle.chip.specs.Step.{function_set}
use Rattle.chip.specs.declared.registers.Registers.{Registers}
use Rattle.mirror.specs.declared.panel.Panel.{Panel}
use Rattle.picture.specs.Pattern.{tall}
use Rattle.picture.specs.Frame.{glass}

-- pin configuration mode B: bit 0 of the Function Set bits is 1, on both chips
abbrev pub mode_b : Registers → Bool
mode_b r = eqb (bit r.function 0) 1

-- in mode B line l takes the place of line lines - 1 - l, rows within it as they are; in mode A every row stays
abbrev pub row_turn : (chip : ℕ) → Bool → Turn (glass chip).rows
row_turn chip b = turned_if b (parts_backward (lines_of chip) tall)

-- and column x takes the place of column columns - 1 - x
abbrev pub column_turn : (chip : ℕ) → Bool → Turn (glass chip).cols
column_turn chip b = turned_if b (backward (glass chip).cols)

-- where a dot of the picture lands, in mode B or not
abbrev pub glass_in : ℕ → Bool → Landing
glass_in chip b = turned (glass chip) (row_turn chip b) (column_turn chip b)

-- in the mode that the registers have
abbrev pub glass_for : Registers → Landing
glass_for r = glass_in r.chip (mode_b r)

-- the panel as it would be in mode A: bit 0 of its Function Set bits is 0, and all else as it was
abbrev pub upright_of : Panel → Panel
upright_of p = record { sheet = function_set p.sheet.registers.eight (p.sheet.registers.function / 2 * 2) p.sheet; busy = p.busy; half = p.half; times = p.times; last = p.last }
