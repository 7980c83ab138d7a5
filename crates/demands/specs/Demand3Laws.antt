-- Demand 3 holds of every consistent answer.
use Rattle.table.specs.WellFormed.{WellFormed}
use Rattle.specification.specs.Table.{Table}
use Rattle.specification.specs.Answers.{Timing, Consistent}
use Rattle.specification.specs.Chains.{Demand3}
use Rattle.demands.specs.BoundedChains.{bounded_chains}
use Rattle.demands.specs.TightPeriod.{tight_period}

pub demand_3 : {t : Table} {r : Timing} → WellFormed t → Consistent t r → Demand3 t r
demand_3 formed right = record {
  bounded = bounded_chains formed right;
  tight = λ p i ones wholes. tight_period formed right i ones wholes;
}
