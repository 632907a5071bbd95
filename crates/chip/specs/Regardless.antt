-- THE FUNCTION SET BITS have no effect on what the machine does (document 01, "The panel"; in the picture bit 0 has one, document 02, wish 5): what that says of a
-- step.
use Rattle.std.specs.Prelude.{◌≡◌}
use Rattle.chip.specs.Step.{function_set}
use Rattle.chip.specs.declared.sheet.Sheet.{Sheet}

-- a sheet with these bits forgotten
abbrev pub bitless : Sheet → Sheet
bitless s = function_set s.registers.eight 0 s

-- a step has no regard for them: sheets that are alike but for these bits become alike but for these bits
abbrev pub Regardless : (Sheet → Sheet) → Type 0
Regardless f = (s t : Sheet) → bitless s ≡ bitless t → bitless (f s) ≡ bitless (f t)
