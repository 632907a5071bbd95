use Rattle.trace.specs.laws.PanelFileLaws.{file_read}
use Rattle.trace.proofs.panel_file.panel_told.Goals as goal

pub returns-in-Ok : goal.returns-in-Ok
returns-in-Ok c =
    file_read _ _ _ _ c.in-Ok.ensures.1.long c.in-Ok.ensures.1.same c.panel_of.ensures c.ok_or.ensures.value
