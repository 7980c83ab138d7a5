-- Length, kind, fields and denominator follow one another.
use mathlib.Core.Path.{refl}
use Rattle.specification.specs.Bytes.{bytes, encode}
use Rattle.specification.specs.Encoding.{link_fields, connection_fields}
use Rattle.records.specs.WrittenLaws.{written}
use Rattle.encoding.proofs.record.write_fraction.Goals as goal

pub returns : goal.returns
unfolding connection_fields link_fields encode bytes
returns c =
    written (rw (
      c.put_number-3.ensures,
      c.from.ensures,
      c.put_connection.ensures,
      c.put_number-2.ensures,
      c.put_number.ensures,
    )) refl c.requires.in_bounds
