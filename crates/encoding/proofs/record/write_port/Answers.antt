-- The four stores follow one another, so they are one store of the whole record.
use mathlib.Core.Path.{refl}
use Rattle.specification.specs.Bytes.{bytes, encode}
use Rattle.specification.specs.Encoding.{encode_port}
use Rattle.records.specs.WrittenLaws.{written}
use Rattle.encoding.proofs.record.write_port.Goals as goal

pub returns : goal.returns
unfolding encode_port encode bytes
returns c =
    written (rw (
      c.put_number-4.ensures,
      c.put_number-3.ensures,
      c.put_number-2.ensures,
      c.put_number.ensures,
    )) refl c.requires
