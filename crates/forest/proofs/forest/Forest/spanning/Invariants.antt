-- Each pass but the last reaches a port. The measure is how many of 64 are left.
use Prim.Native.Nat.{◌-◌}
use Rattle.table.specs.Held.{table_in}
use Rattle.forest.specs.Spreading.{Spreading}
use Rattle.forest.proofs.forest.Forest.spanning.Given as goal

abbrev pub invariant-loop-growing : goal.invariant-loop-growing
invariant-loop-growing l = Spreading (table_in l.table) l.growing l.rows

abbrev pub decreases-loop-growing : goal.decreases-loop-growing
decreases-loop-growing l = 64 - l.growing.count
