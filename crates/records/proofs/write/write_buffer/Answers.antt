-- The four stores follow one another, so they are one store of the whole record.
use mathlib.Core.Path.{refl}
use Rattle.specification.specs.Bytes.{bytes, encode, buffer_answer}
use Rattle.records.specs.WrittenLaws.{written}
use Rattle.records.proofs.write.write_buffer.Goals as goal

pub returns : goal.returns
unfolding buffer_answer encode bytes
returns c =
    written (rw (c.put_number-4.ensures, c.put_number-3.ensures, c.put_number-2.ensures, c.put_number.ensures)) refl c.requires
