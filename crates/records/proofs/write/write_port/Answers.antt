-- The seven stores follow one another, so they are one store of the whole record.
use mathlib.Core.Path.{refl}
use Rattle.specification.specs.Bytes.{bytes, encode, port_answer}
use Rattle.records.specs.WrittenLaws.{written}
use Rattle.records.proofs.write.write_port.Goals as goal

pub returns : goal.returns
unfolding port_answer encode bytes
returns c =
    written (rw (
      c.put_number-7.ensures,
      c.put_number-6.ensures,
      c.put_number-5.ensures,
      c.put_number-4.ensures,
      c.put_number-3.ensures,
      c.put_number-2.ensures,
      c.put_number.ensures,
    )) refl c.requires
