-- The digits are the number's decimal.
use native.Mathlib.Omega.{arith}
use Rattle.text.proofs.writer.Digits.{fewest_decimal}
use Rattle.text.proofs.writer.Writer.number.Goals as goal

pub word-requires : goal.word-requires
word-requires c =
    let d = fewest_decimal _ _ (omega arith) c.decimal-count.ensures.len in
    rw (c.decimal-count.ensures.digits, d) c.requires

pub returns : goal.returns
returns c =
    let d = fewest_decimal _ _ (omega arith) c.decimal-count.ensures.len in
    rw (c.decimal-count.ensures.digits, d) at c.word.ensures
