-- The links below k are passed.
use Rattle.table.specs.Held.{table_in}
use Rattle.ways.specs.Passes.{Passed}
use Rattle.ways.proofs.components.pass.Given as goal

abbrev pub invariant-loop-k : goal.invariant-loop-k
invariant-loop-k l = Passed (table_in l.table) l.k l.initial.labels l.labels l.changed
