-- The denominators of the links below k are 1.
use Prim.Native.Nat.{ℕ, ◌<◌}
use mathlib.Core.Path.{◌≡◌}
use Rattle.specification.specs.Table.{δ°}
use Rattle.table.specs.Held.{table_in}
use Rattle.weights.proofs.whole.all_units.Given as goal

abbrev pub invariant-loop-k : goal.invariant-loop-k
invariant-loop-k l = (j : ℕ) → j < l.k → δ° (table_in l.table) j ≡ 1
