-- The first line and the records' lines, one behind another.
use Rattle.text.specs.Lines.{answer_line}
use Rattle.text.specs.Printed.{printed}
use Rattle.text.specs.Writer.{◌⨾◌}
use Rattle.text.proofs.print.write_answer.Goals as goal

pub returns : goal.returns
unfolding printed answer_line
returns c =
    c.field.ensures ⨾ c.write_place.ensures ⨾ c.word.ensures ⨾ c.write_records.ensures
