-- What is given of the files, their join, and the line.
use Rattle.files.specs.FilesLaws.{given_of}
use Rattle.join_report.proofs.Reported.{reported}
use Rattle.join_report.proofs.report.Goals as goal

pub returns : goal.returns
returns c =
    let first = c.args.first.now in
    let second = c.args.second.now in
    let added = c.args.added.now in
    let files = given_of first.read second.read added.read first.read_into second.read_into added.read_into c.in_turn-turn.ensures.value in
    reported files c.requires.most_table_bytes_in_bounds c.join-joined.ensures c.print_line-line.ensures c.given.ensures.value
