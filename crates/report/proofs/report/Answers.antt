-- By whether the input was read whole.
use Rattle.std.proofs.Common.{length-take-le}
use Rattle.report.proofs.Texts.{reported_not_whole, reported_answer}
use Rattle.report.proofs.report.Goals as goal

pub returns-in-Ok : goal.returns-in-Ok
returns-in-Ok c =
    let whole = c.in-Ok.ensures in
    reported_answer _ (length-take-le _ _ c.args.input.now.read_into.within) whole.0 (rw whole.1 at c.print_answer.ensures)

pub returns-in-Err : goal.returns-in-Err
returns-in-Err c =
    let stop = c.in-Err.ensures in
    let w = c.print_not_whole.ensures in
    reported_not_whole _ (length-take-le _ _ c.args.input.now.read_into.within) stop.0 stop.1 w.written w.upper_bound
