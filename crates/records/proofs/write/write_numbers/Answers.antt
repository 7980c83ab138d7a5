-- The three stores follow one another, so they are one store of the whole record; it holds two bytes for each number.
use native.Mathlib.Omega.{arith}
use Rattle.specification.specs.Bytes.{bytes, encode}
use Rattle.records.specs.Lengths.{words_length}
use Rattle.records.specs.WrittenLaws.{written}
use Rattle.records.proofs.write.write_numbers.Goals as goal

pub returns : goal.returns
unfolding encode bytes
returns c =
    written (rw (words_length, c.put_words.ensures, c.put_number-2.ensures, c.put_number.ensures)) (rw words_length (omega arith)) (rw words_length (omega arith))
