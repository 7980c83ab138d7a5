-- What reading the rate limits of a component's ports asks.
use Rattle.std.specs.Prelude.{ℕ, ◌<◌, List, []}
use Rattle.numbers.specs.Lists.{◌∈◌}
use Rattle.period.specs.Component.{graph_of, SmallLimits}

-- numbers below 64, and for each a rate limit or none
pub record Limited (ports limits : List ℕ) : Type 0 where
  pub low_ports : (p : ℕ) → p ∈ ports → p < 64
  pub small : SmallLimits (graph_of ports limits [])
