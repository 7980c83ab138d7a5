-- The five stores follow one another, so they are one store of all fields.
use Rattle.specification.specs.Bytes.{bytes}
use Rattle.specification.specs.Encoding.{link_fields}
use Rattle.encoding.proofs.record.put_fields.Goals as goal

pub returns : goal.returns
unfolding link_fields bytes
returns c =
    rw (
      c.put_number-5.ensures,
      c.signed_word.ensures,
      c.put_number-4.ensures,
      c.put_number-3.ensures,
      c.put_number-2.ensures,
      c.put_number.ensures,
    )
