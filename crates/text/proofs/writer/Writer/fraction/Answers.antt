-- The numerator, the stroke and the denominator, one behind another.
use Rattle.text.specs.Lines.{fraction}
use Rattle.text.specs.Writer.{◌⨾◌}
use Rattle.text.proofs.writer.Writer.fraction.Goals as goal

pub returns : goal.returns
unfolding fraction
returns c = c.number.ensures ⨾ c.word.ensures ⨾ c.number-2.ensures
