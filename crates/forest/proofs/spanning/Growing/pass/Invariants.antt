-- The links below k are passed, both ways.
use Rattle.table.specs.Held.{table_in}
use Rattle.forest.specs.Spreading.{Passed}
use Rattle.forest.proofs.spanning.Growing.pass.Given as goal

abbrev pub invariant-loop-k : goal.invariant-loop-k
invariant-loop-k l = Passed (table_in l.table) l.k l.initial.self l.self l.rows
