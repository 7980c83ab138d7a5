-- The room suffices for the table.
use native.Mathlib.Omega.{arith}
use Rattle.graph.specs.ArrangedLaws.{labels_sortable, most_members_lem}
use Rattle.analysis.proofs.time.Goals as goal

pub sort-most-requires-clause-sortable : goal.sort-most-requires-clause-sortable
sort-most-requires-clause-sortable c = rw c.port_count-total.ensures (labels_sortable c.requires)

pub time_in-requires-else-count-le32-clause-room : goal.time_in-requires-else-count-le32-clause-room
time_in-requires-else-count-le32-clause-room c = omega (arith, most_members_lem c.requires)
