-- The records of the links stand right behind those of the ports.
use native.Mathlib.Omega.{arith}
use lib.ListN.{length-take, length-drop}
use Rattle.table.specs.Slices.{table_of}
use Rattle.specification.specs.Encoding.{encode_table}
use Rattle.records.specs.WrittenLaws.{written_append}
use Rattle.encoding.specs.EncodingLaws.{table_length}
use Rattle.encoding.proofs.write_table.Goals as goal

pub write_ports-at-requires : goal.write_ports-at-requires
write_ports-at-requires c = omega (arith, table_length (table_of c.args.ports.now c.args.links.now), c.requires.links_in_bounds)

pub slice_bounds-write_links-count : goal.slice_bounds-write_links-count
slice_bounds-write_links-count c = omega (arith, c.write_ports-at.ensures.counted, table_length (table_of c.args.ports.now c.args.links.now), c.requires.links_in_bounds)

pub slice_bounds-write_links-start : goal.slice_bounds-write_links-start
slice_bounds-write_links-start c = omega (arith, c.write_ports-at.ensures.counted, table_length (table_of c.args.ports.now c.args.links.now), c.requires.links_in_bounds)

pub write_links-requires : goal.write_links-requires
write_links-requires c =
    record { links_fit = c.requires.links_fit; links_in_bounds = simp (length-take, length-drop) (omega (arith, c.write_ports-at.ensures.counted, table_length (table_of c.args.ports.now c.args.links.now), c.requires.links_in_bounds)) }

pub overflow_add-result : goal.overflow_add-result
overflow_add-result c =
    omega (arith, c.write_ports-at.ensures.counted, c.write_links.ensures.counted, table_length (table_of c.args.ports.now c.args.links.now), c.requires.links_in_bounds)

pub returns : goal.returns
unfolding encode_table
returns c = written_append c.write_ports-at.ensures c.write_links.ensures
