-- What is left, put to the lowest so far, gives the lowest of all.
use Rattle.std.specs.Prelude.{◌+◌}
use Rattle.specification.specs.Hiding.{links_into}
use Rattle.table.specs.Held.{table_in}
use Rattle.hidden.specs.Limits.{LowestFirst}
use Rattle.hidden.proofs.rate.lowest_sender.Given as goal

abbrev pub invariant-loop-k : goal.invariant-loop-k
invariant-loop-k l = LowestFirst (links_into (table_in l.sides.table.now) l.sides.port) l.lowest (l.k-index + 1)
