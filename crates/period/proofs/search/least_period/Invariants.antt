-- Each a/b tried is the floor's limit or just above zero, and the next is greater.
use lib.ListN.{length}
use Rattle.period.specs.Component.{just_above}
use Rattle.period.specs.Held.{limits_in, edges_in}
use Rattle.period.proofs.search.Searching.{Searching}
use Rattle.period.proofs.search.Falls.{left}
use Rattle.period.proofs.search.least_period.Given as goal

abbrev pub invariant-loop-changed : goal.invariant-loop-changed
invariant-loop-changed l =
    Searching l.graph.members.now (limits_in l.graph) (edges_in l.graph) (length l.graph.numbers.now) l.initial.work l.work l.period l.floor

abbrev pub decreases-loop-changed : goal.decreases-loop-changed
decreases-loop-changed l = left just_above l.period.num l.period.den
