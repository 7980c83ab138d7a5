-- The owners so far are those of the links.
use native.Mathlib.Omega.{arith}
use Rattle.graph.proofs.connections.Owned.{owners_all}
use Rattle.graph.proofs.connections.write_owners.Goals as goal

pub returns : goal.returns
returns c = owners_all _ _ (omega arith) (λ k h. c.loop-k.invariant k (omega arith))
