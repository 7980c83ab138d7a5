-- What reading refuses, or what is decided of the table.
use mathlib.Core.Path.{sym, ◌∙◌}
use Rattle.table.specs.FilledLaws.{table_read, formed_read}
use Rattle.analysis.specs.AnalysedLaws.{analysed_faulty, analysed_decided, written_room}
use Rattle.analysis.proofs.read_in.Goals as goal

pub table-requires-clause-well_formed : goal.table-requires-clause-well_formed
table-requires-clause-well_formed g c = formed_read _ c.in-Ok.ensures

pub returns-in-Ok-clause-analysed : goal.returns-in-Ok-clause-analysed
returns-in-Ok-clause-analysed g c =
    let read = c.in-Ok.ensures in
    analysed_decided _ (c.table.ensures ∙ table_read read) read.returned.number c.requires.least_room_in_bounds c.decide.ensures

pub returns-in-Ok-clause-written_le_least_room : goal.returns-in-Ok-clause-written_le_least_room
returns-in-Ok-clause-written_le_least_room g c = written_room c.table.result.well_formed c.requires.least_room_in_bounds c.decide.ensures

pub returns-in-Err-clause-analysed : goal.returns-in-Err-clause-analysed
returns-in-Err-clause-analysed g c =
    let fault = c.in-Err.ensures.returned in
    rw c.into.ensures (analysed_faulty _ _ _ _ (sym fault.number) (sym fault.place) (λ e. fault.some (fault.number ∙ e)) c.requires.least_room_in_bounds)
