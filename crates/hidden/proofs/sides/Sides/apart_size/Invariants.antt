-- Each turn of the loop adds the bytes of one link more.
use Rattle.specification.specs.Hiding.{links_apart}
use Rattle.table.specs.Held.{table_in}
use Rattle.hidden.specs.Sizes.{SizeFirst}
use Rattle.hidden.proofs.sides.Sides.apart_size.Given as goal

abbrev pub invariant-loop-k : goal.invariant-loop-k
invariant-loop-k l = SizeFirst (links_apart (table_in l.self.table.now) l.self.port) l.size l.k-index
