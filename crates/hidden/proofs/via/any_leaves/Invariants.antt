-- No pair so far leaves its range.
use Rattle.specification.specs.Hiding.{links_into, links_from}
use Rattle.table.specs.Held.{table_in}
use Rattle.hidden.proofs.via.Pairs.{NoneSoFar}
use Rattle.hidden.proofs.via.any_leaves.Given as goal

abbrev pub invariant-loop-second : goal.invariant-loop-second
invariant-loop-second l =
    let t = table_in l.sides.table.now in NoneSoFar (links_into t l.sides.port) (links_from t l.sides.port) l.first-index l.second-index

abbrev pub invariant-loop-first : goal.invariant-loop-first
invariant-loop-first l =
    let t = table_in l.sides.table.now in NoneSoFar (links_into t l.sides.port) (links_from t l.sides.port) l.first-index 0
