-- From the forest, the first conflict and the weights to the outcome.
use Prim.Native.Nat.{ℕ}
use mathlib.Core.Path.{◌≡◌}
use mathlib.Core.List.{List, map}
use Rattle.table.specs.WellFormed.{WellFormed}
use Rattle.specification.specs.Table.{Table, from}
use Rattle.numbers.specs.Lists.{◌∈◌}
use Rattle.specification.specs.Ratios.{above, below, DisagreeingLoop}
use Rattle.ways.specs.Labels.{Components}
use Rattle.forest.specs.PortRows.{Fits, Spanned}
use Rattle.forest.specs.Agreement.{FirstConflict}
use Rattle.forest.specs.Conflicting.{loop_unequal}
use Rattle.forest.specs.Loop.{steps_from, Closed}
use Rattle.weights.specs.Ratios.{LoopNumbers}

module _ {t : Table} {labels reach via : List ℕ} {rows : List (List ℕ)} (formed : WellFormed t) (components : Components t labels)
    (spanned : Spanned t labels reach via rows) where
  module _ {k : ℕ} (first : FirstConflict t rows k) where
    disagrees : {numbers : List ℕ} {n : ℕ} → Closed t labels via k numbers n → DisagreeingLoop t (steps_from numbers 0 n)
    disagrees {numbers} {n} c = record { at = from t k; way = c.way; ports = c.ports; links = c.links; unequal = unequal }
      where
        fits : (j : ℕ) → j ∈ map (λ x. x.number) c.rest → Fits t rows j
        fits j m = let (p, port, other, e) = c.over_forest j m in rw e at (spanned.over_forest.fits p port other)

        unequal : ¬ (above t (steps_from numbers 0 n) ≡ below t (steps_from numbers 0 n))
        unequal = rw c.steps (loop_unequal rows formed k c.rest (rw c.steps at c.way) fits first.conflict)

    -- the loop that it closes disagrees
    pub loop_numbers_lem : {numbers : List ℕ} {n : ℕ} → Closed t labels via k numbers n → LoopNumbers t numbers n
    loop_numbers_lem c = record { loop = disagrees c; few = c.few; directions = c.directions }
