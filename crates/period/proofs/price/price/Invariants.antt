-- Each turn of the loop stores the four numbers of one edge more.
use lib.ListN.{length}
use Rattle.period.specs.Held.{edges_in}
use Rattle.period.proofs.price.Filled.{Filled}
use Rattle.period.proofs.price.price.Given as goal

abbrev pub invariant-loop-k : goal.invariant-loop-k
invariant-loop-k l = Filled (edges_in l.graph) (length l.graph.numbers.now) l.period.num l.period.den l.initial.costs l.costs l.k
