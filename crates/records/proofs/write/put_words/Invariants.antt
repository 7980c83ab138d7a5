-- What the loop leaves to store, put into the tail as it is now, makes the words of all the numbers.
use Prim.Native.Nat.{◌+◌, ◌*◌}
use lib.ListN.{drop}
use Rattle.specification.specs.Bytes.{words}
use Rattle.records.proofs.write.Laws.{Left}
use Rattle.records.proofs.write.put_words.Given as goal

abbrev pub invariant-loop-i : goal.invariant-loop-i
invariant-loop-i l = Left l.initial.tail l.at (words l.numbers) l.tail (l.at + 2 * l.i) (words (drop l.i l.numbers))
