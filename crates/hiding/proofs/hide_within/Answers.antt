-- What hiding comes to, or the table's own refusal.
use Rattle.hiding.specs.Hides.{returned_own, returned_hidden}
use Rattle.hiding.proofs.hide_within.Goals as goal

pub returns-in-Ok : goal.returns-in-Ok
returns-in-Ok g c = returned_hidden c.args.p c.in-Ok.ensures c.table.ensures c.hide_own.ensures

pub returns-in-Err : goal.returns-in-Err
returns-in-Err g c = returned_own c.args.p c.args.out.now c.in-Err.ensures
