-- The owners of the links are the keys.
use Rattle.graph.specs.ArrangedLaws.{owners_sortable}
use Rattle.graph.proofs.connections.sort_connections.Goals as goal

pub sort-requires-clause-sortable : goal.sort-requires-clause-sortable
sort-requires-clause-sortable c = rw (c.write_owners.ensures, c.port_count.ensures) (owners_sortable c.args.table.now.well_formed c.requires.components)
