-- Agreement of ratios: number 13 is its failure.
use Rattle.std.specs.Prelude.{ℕ, ◌≡◌, List}
use Rattle.specification.specs.Table.{Table}
use Rattle.specification.specs.Ratios.{Step, Way, above, below}

-- every closed way has the ratio 1
pub record Agree (t : Table) : Type 0 where
  pub closed : (p : ℕ) (path : List Step) → Way t p p path → above t path ≡ below t path
