-- What is given of the files, and its text.
use Rattle.files.specs.FilesLaws.{given_of}
use Rattle.preview_report.proofs.Texts.{reported}
use Rattle.preview_report.proofs.report.Goals as goal

pub returns : goal.returns
returns c =
    let first = c.args.first.now in
    let second = c.args.second.now in
    let added = c.args.added.now in
    let files = given_of first.read second.read added.read first.read_into second.read_into added.read_into c.in_turn-turn.ensures.value in
    reported files c.print_preview.ensures
