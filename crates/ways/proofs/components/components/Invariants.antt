-- The labels stay sound, and each pass that changes one lowers their sum, the measure.
use Rattle.table.specs.Held.{table_in}
use Rattle.ways.specs.Passes.{Sound}
use Rattle.numbers.specs.Lists.{sum}
use Rattle.ways.proofs.components.components.Given as goal

abbrev pub invariant-loop : goal.invariant-loop
invariant-loop l = Sound (table_in l.table) l.labels

abbrev pub decreases-loop : goal.decreases-loop
decreases-loop l = sum (λ v. v) l.labels
