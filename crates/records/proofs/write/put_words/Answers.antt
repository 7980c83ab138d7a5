-- What the loop leaves to store, put into the tail as it is now, makes the words of all the numbers.
use mathlib.Core.Path.{refl}
use native.Mathlib.Omega.{arith}
use Rattle.records.proofs.write.Laws.{left_all, word_less, word_none}
use Rattle.records.proofs.write.put_words.Goals as goal

pub loop-i-init : goal.loop-i-init
loop-i-init c = left_all (omega arith) refl

pub loop-i-preserved : goal.loop-i-preserved
loop-i-preserved c =
    word_less _ _ _ _ _ c.loop-i-test.true c.put_number.ensures c.loop-i.invariant

pub returns : goal.returns
returns c = word_none _ _ _ _ c.loop-i-test.false c.loop-i.invariant
