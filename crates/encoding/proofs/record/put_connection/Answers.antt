-- The events stand right behind the fields.
use Rattle.specification.specs.Bytes.{bytes}
use Rattle.specification.specs.Encoding.{link_fields, connection_fields}
use Rattle.encoding.proofs.record.put_connection.Goals as goal

pub returns : goal.returns
unfolding connection_fields link_fields bytes
returns c =
    rw (c.put_number.ensures, c.signed_word.ensures, c.put_fields.ensures)
