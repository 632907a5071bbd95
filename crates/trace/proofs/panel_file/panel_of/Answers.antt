use Rattle.std.proofs.Common.{◌∙◌, arith}
use Rattle.trace.specs.laws.PanelFileLaws.{le_16, le_64, panel_read, table_ranged}
use Rattle.trace.proofs.panel_file.panel_of.Goals as goal

pub returns : goal.returns
returns c =
    let b = c.args.bytes.now in
    panel_read b _ _ _ _ _ _ _ _ _ c.in_ok-registers_of.ensures c.in_ok-half_of.ensures
    (table_ranged b 1 32 c.field.result c.field.ensures (omega arith))
    (table_ranged b 33 32 c.field-2.result c.field-2.ensures (omega arith))
    (c.from_le_bytes.ensures ∙ le_64 b 81 c.field-3.result c.field-3.ensures (omega arith))
    (c.from_le_bytes-2.ensures ∙ le_16 b 75 c.field-4.result c.field-4.ensures (omega arith))
    (c.from_le_bytes-3.ensures ∙ le_16 b 77 c.field-5.result c.field-5.ensures (omega arith))
    (c.from_le_bytes-4.ensures ∙ le_16 b 79 c.field-6.result c.field-6.ensures (omega arith))
    (c.from_le_bytes-5.ensures ∙ le_64 b 89 c.field-7.result c.field-7.ensures (omega arith))
