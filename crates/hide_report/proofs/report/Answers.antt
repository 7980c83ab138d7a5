-- The table of an input that was read whole.
use Rattle.std.proofs.Common.{length-take-le}
use Rattle.hide_report.proofs.Digits.{named_number}
use Rattle.hide_report.proofs.Reported.{reported_table}
use Rattle.hide_report.proofs.report.Goals as goal

pub returns-in-Ok : goal.returns-in-Ok
returns-in-Ok c =
    let number = named_number c.args.argument.now c.in-Some.ensures in
    let whole = c.in-Ok.ensures in
    let count = length-take-le c.args.input.now.read.count c.args.input.now.space.now c.args.input.now.read_into.within in
    reported_table number.0 (rw count whole.0) number.1 (rw whole.1 at c.report_table.ensures)
