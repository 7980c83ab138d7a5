-- The weights of the ports below p are stored.
use Rattle.table.specs.Held.{table_in}
use Rattle.weights.proofs.weights.Weighted.{Weighted}
use Rattle.weights.proofs.weights.weigh.Given as goal

abbrev pub invariant-loop-p : goal.invariant-loop-p
invariant-loop-p l = Weighted (table_in l.table) l.labels l.rows l.least l.p l.weights
