-- The word, and the fraction behind it.
use Rattle.text.specs.Lines.{fraction_field}
use Rattle.text.specs.Writer.{◌⨾◌}
use Rattle.text.proofs.writer.Writer.fraction_field.Goals as goal

pub returns : goal.returns
unfolding fraction_field
returns c = c.word.ensures ⨾ c.fraction.ensures
