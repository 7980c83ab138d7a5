-- What the analysis writes prints as the text of its answer, for which there is room.
use Rattle.std.proofs.Common.{sym}
use Rattle.report.proofs.Texts.{printed_text}
use Rattle.report.proofs.print_answer.Goals as goal

pub returns : goal.returns
returns c =
    let w = c.print.ensures in
    printed_text c.analyse-r.ensures.analysed (sym c.answer_room-answer.ensures) w.written w.upper_bound
