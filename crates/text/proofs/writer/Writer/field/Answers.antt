-- The word, and the number behind it.
use Rattle.text.specs.Lines.{field}
use Rattle.text.specs.Writer.{◌⨾◌}
use Rattle.text.proofs.writer.Writer.field.Goals as goal

pub returns : goal.returns
unfolding field
returns c = c.word.ensures ⨾ c.number.ensures
