-- It is the greatest part of the links below k.
use Rattle.table.specs.Held.{table_in}
use Rattle.forest.proofs.parts.Most.{MostBelow}
use Rattle.forest.proofs.parts.greatest_part.Given as goal

abbrev pub invariant-loop-k : goal.invariant-loop-k
invariant-loop-k l = MostBelow (table_in l.table) l.k l.most
