-- By whether an input has a fault.
use Rattle.previews.proofs.Outcomes.{preview_refused, read_writable, preview_analysed}
use Rattle.previews.proofs.preview_in.Goals as goal

pub analyse_table-r-requires : goal.analyse_table-r-requires
analyse_table-r-requires c = read_writable c.in-Ok.ensures c.cut.ensures.ports c.cut.ensures.links

pub returns-in-Ok : goal.returns-in-Ok
returns-in-Ok c = preview_analysed c.in-Ok.ensures c.cut.ensures.ports c.cut.ensures.links c.analyse_table-r.ensures

pub returns-in-Err : goal.returns-in-Err
returns-in-Err c = preview_refused c.in-Err.ensures.refused _ c.into.ensures
