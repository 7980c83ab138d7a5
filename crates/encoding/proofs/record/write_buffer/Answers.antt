-- Length, kind and fields follow one another.
use mathlib.Core.Path.{refl}
use Rattle.specification.specs.Bytes.{bytes, encode}
use Rattle.specification.specs.Encoding.{link_fields}
use Rattle.records.specs.WrittenLaws.{written}
use Rattle.encoding.proofs.record.write_buffer.Goals as goal

pub returns : goal.returns
unfolding link_fields encode bytes
returns c =
    written (rw (c.put_fields.ensures, c.put_number-2.ensures, c.put_number.ensures)) refl c.requires.in_bounds
