-- It is the first with the greatest limit among the first ports, or none of them has a rate.
use Rattle.table.specs.Slices.{ports_of}
use Rattle.period.specs.Edges.{limits_of}
use Rattle.period.proofs.limit.Leading.{Leading}
use Rattle.period.proofs.limit.greatest_limit.Given as goal

abbrev pub invariant-loop-port : goal.invariant-loop-port
invariant-loop-port l = Leading l.members (limits_of (ports_of l.ports) l.weights) l.port-index l.greatest
