-- Each turn of the loop relaxes one edge more.
use Rattle.rounds.proofs.starts.Partly.{Partly}
use Rattle.rounds.proofs.starts.round.Given as goal

abbrev pub invariant-loop-edge : goal.invariant-loop-edge
invariant-loop-edge l = Partly l.costs l.old l.edge-index l.new
