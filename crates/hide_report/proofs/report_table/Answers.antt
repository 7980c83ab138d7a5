-- What is hidden, and its line.
use Rattle.hide_report.proofs.Reported.{table_reported}
use Rattle.hide_report.proofs.report_table.Goals as goal

pub returns : goal.returns
returns c =
    table_reported c.requires.most_table_bytes_in_bounds c.hide-hidden.ensures c.print_line-line.ensures
