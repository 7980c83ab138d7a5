-- Both conditions of each link below k hold.
use Prim.Native.Nat.{◌*◌}
use Rattle.table.specs.Held.{table_in}
use Rattle.weights.proofs.whole.Conditions.{ScaledSo}
use Rattle.weights.proofs.whole.scale_all.Given as goal

abbrev pub invariant-loop-k : goal.invariant-loop-k
invariant-loop-k l = ScaledSo (table_in l.table) (2 * l.k) l.weights
