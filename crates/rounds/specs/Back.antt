-- What the walk back through the rows asks and finds.
use Rattle.std.specs.Prelude.{ℕ, ◌-◌, ◌≤◌, ◌<◌, List, length, take, drop}
use Rattle.rounds.specs.Walks.{Among, PositiveCycle}
use Rattle.rounds.specs.Costs.{gain_of, loss_of, priced}
use Rattle.rounds.specs.Starts.{Fitting, Moving}
use Rattle.rounds.specs.declared.back.Part.{Part}

-- the edges join n ports
pub record Enclosed (cs : List ℕ) (n : ℕ) : Type 0 where
  pub ports : List ℕ
  pub few : length ports ≤ n
  pub among : Among (priced cs) ports

-- each of n rounds over the edges of n ports changed something, and the last raised port j
pub record EveryRoundRaises (cs rows : List ℕ) (n j : ℕ) (steps : List ℕ) : Type 0 where
  pub fitting : Fitting cs rows n
  pub moving : Moving cs rows n j
  pub enclosed : Enclosed cs n
  pub room : 64 ≤ length steps

-- the edges of a part of the steps
abbrev pub edges_of : List ℕ → Part → List ℕ
edges_of steps part = take (part.last - part.first) (drop part.first steps)

-- the part of the steps is a simple cycle that gains more than it loses
pub record FoundCycle (cs steps : List ℕ) (part : Part) : Type 0 where
  pub ordered : part.first < part.last
  pub short : part.last - part.first ≤ 64
  pub within : part.last ≤ length steps
  pub cycle : PositiveCycle (priced cs) (gain_of cs) (loss_of cs) (edges_of steps part)
