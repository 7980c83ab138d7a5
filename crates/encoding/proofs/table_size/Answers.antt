-- Eight bytes for each port, and those of the links.
use native.Mathlib.Omega.{arith}
use Rattle.table.specs.Slices.{ports_of, links_of, table_of}
use Rattle.encoding.specs.EncodingLaws.{ports_length, links_most, table_length}
use Rattle.encoding.proofs.table_size.Goals as goal

pub overflow_add-result : goal.overflow_add-result
overflow_add-result c =
    omega (arith, c.links_size.ensures, c.count.ensures, links_most (links_of c.args.links.now), c.requires.links_fit.few)

pub returns : goal.returns
returns c =
    let args = c.args in
    omega (arith, c.links_size.ensures, c.count.ensures, table_length (table_of args.ports.now args.links.now), ports_length (ports_of args.ports.now))
