-- Each turn of the loop goes up from the end that was reached later. The measure is the sum of the places of both in the order.
use Prim.Native.Nat.{◌+◌}
use lib.ListN.{get_or}
use Rattle.table.specs.Held.{table_in}
use Rattle.forest.proofs.loops.Writing.{Turn}
use Rattle.forest.proofs.forest.Forest.climb.Given as goal

abbrev pub invariant-loop-a : goal.invariant-loop-a
invariant-loop-a l =
    Turn (table_in l.self.table.now) l.self.labels.now l.self.reach l.self.via l.k l.initial.numbers l.numbers l.down l.next l.first l.a l.b

abbrev pub decreases-loop-a : goal.decreases-loop-a
decreases-loop-a l = get_or l.self.reach l.a 0 + get_or l.self.reach l.b 0
