-- The owners so far are those of the links.
use Rattle.table.specs.Held.{table_in}
use Rattle.graph.proofs.connections.Owned.{OwnersTo}
use Rattle.graph.proofs.connections.write_owners.Given as goal

abbrev pub invariant-loop-k : goal.invariant-loop-k
invariant-loop-k l = OwnersTo (table_in l.table) l.labels l.owners l.k
