-- The loop names the connections of the cycle from the front.
use Rattle.results.proofs.blocked.Named.{Named}
use Rattle.results.proofs.blocked.write_connections.Given as goal

abbrev pub invariant-loop-i : goal.invariant-loop-i
invariant-loop-i l = Named l.numbers l.cycle l.steps l.named l.i
