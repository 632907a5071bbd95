use Rattle.std.proofs.Common.{◌∙◌, arith}
use Rattle.trace.specs.laws.PanelFileLaws.{le_32, registers_read}
use Rattle.trace.proofs.panel_file.registers_of.Goals as goal

pub returns : goal.returns
returns c =
    registers_read c.args.bytes.now _ _ _ _ _ _ _ _ _ c.in_ok-address_of.ensures c.in_ok-bool_of.ensures c.in_ok-bool_of-2.ensures
    c.in_ok-bool_of-3.ensures c.in_ok-bool_of-4.ensures c.in_ok-bool_of-5.ensures c.in_ok-width_of.ensures c.in_ok-bool_of-6.ensures
    (c.from_le_bytes.ensures ∙ le_32 c.args.bytes.now 102 c.field.result c.field.ensures (omega arith))
