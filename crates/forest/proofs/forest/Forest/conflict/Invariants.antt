-- The rows fit every link below k.
use Rattle.table.specs.Held.{table_in}
use Rattle.forest.specs.Agreement.{FitBelow}
use Rattle.forest.proofs.forest.Forest.conflict.Given as goal

abbrev pub invariant-loop-k : goal.invariant-loop-k
invariant-loop-k l = FitBelow (table_in l.self.table.now) l.rows l.k
