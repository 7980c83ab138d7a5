-- The sums are those of the first edges.
use Rattle.period.specs.Held.{edges_in}
use Rattle.period.proofs.sums.Summed.{Summed}
use Rattle.period.proofs.sums.sums_of.Given as goal

abbrev pub invariant-loop-i : goal.invariant-loop-i
invariant-loop-i l = Summed (edges_in l.graph) l.path l.i-index l.ticks.0 l.ticks.1 l.events.0 l.events.1
