-- Each turn of the loop relaxes one edge more.
use native.Mathlib.Omega.{arith}
use Rattle.rounds.proofs.Chunks.{parts}
use Rattle.rounds.proofs.starts.Partly.{partly_none, partly_ready, partly_on, partly_all}
use Rattle.rounds.proofs.starts.round.Goals as goal

pub loop-edge-init : goal.loop-edge-init
loop-edge-init c = partly_none c.requires.can_round c.requires.value

pub relax-requires : goal.relax-requires
relax-requires c = partly_ready c.loop-edge.invariant (parts c.loop-edge.edge-index c.as_chunks.ensures.front (omega arith))

pub loop-edge-preserved : goal.loop-edge-preserved
loop-edge-preserved c = partly_on c.loop-edge.invariant (parts c.loop-edge.edge-index c.as_chunks.ensures.front (omega arith)) c.relax.ensures

pub returns : goal.returns
returns c = partly_all c.loop-edge.invariant (omega arith) c.grown.ensures
