-- The edge asks for more than its receiver has and raises it, or does not.
use native.Mathlib.Omega.{arith}
use Rattle.rounds.proofs.starts.Relaxed.{raise_same, raise_more}
use Rattle.rounds.proofs.starts.relax.Goals as goal

pub returns-then-new-receiver : goal.returns-then-new-receiver
returns-then-new-receiver c = raise_more _ _ _ (omega arith)

pub returns-else-new-receiver : goal.returns-else-new-receiver
returns-else-new-receiver c = raise_same _ _ _ (omega arith)
