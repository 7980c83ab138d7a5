-- What naming the connections of a floor and a block asks.
use Rattle.std.specs.Prelude.{ℕ, ◌<◌, ◌≡◌, List, length}
use Rattle.numbers.specs.Lists.{◌∈◌}
use Rattle.period.specs.Search.{cycle_of}
use Rattle.period.specs.declared.cycle.Cycle.{Cycle}
use Rattle.period.specs.declared.search.Floor.{Floor}
use Rattle.period.specs.declared.search.Floor.TheVariants.{Lower}

-- the steps of a cycle are places of the numbers
pub record NamedCycle (numbers : List ℕ) (c : Cycle) : Type 0 where
  pub named : (i : ℕ) → i ∈ cycle_of c → i < length numbers

-- so are those of the cycle whose lower limit the floor is
pub record NamedFloor (numbers : List ℕ) (floor : Floor) : Type 0 where
  pub limit : (c : Cycle) → floor ≡ Lower c → NamedCycle numbers c
