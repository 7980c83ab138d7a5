-- The rows of the ports below p are taken in.
use Rattle.table.specs.Held.{table_in}
use Rattle.weights.specs.LeastRows.{LeastRows}
use Rattle.weights.proofs.weights.least_rows.Given as goal

abbrev pub invariant-loop-p : goal.invariant-loop-p
invariant-loop-p l = LeastRows (table_in l.table) l.labels l.rows l.p l.least
