-- What fills the slices from each place fills them from the start; the bytes left fall.
use Rattle.table.proofs.reading.Turn.{Going}
use Prim.Native.Nat.{◌-◌}
use lib.ListN.{length}
use Rattle.table.proofs.reading.read_on.Given as goal

abbrev pub invariant-loop-read : goal.invariant-loop-read
invariant-loop-read l = Going l.s l.initial.ports l.initial.links l.by l.initial.b l.ports l.links l.b l.at

abbrev pub decreases-loop-read : goal.decreases-loop-read
decreases-loop-read l = length l.s - l.at
