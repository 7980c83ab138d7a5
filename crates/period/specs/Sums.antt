-- E and D of a run of edges.
use Rattle.std.specs.Prelude.{ℕ, ◌≤◌, ◌≡◌, List, [], length}
use Rattle.numbers.specs.Lists.{◌∈◌, sum}
use Rattle.period.specs.Component.{graph_of, SmallEdges}
use Rattle.period.specs.declared.sums.Sums.{Sums}

-- up to 64 numbers of edges with small parts
pub record Summing (edges path : List ℕ) : Type 0 where
  pub few : length path ≤ 64
  pub edges_of_lem : (k : ℕ) → k ∈ path → (graph_of [] [] edges).IsEdge k
  pub small : SmallEdges (graph_of [] [] edges)

pub record SumsOf (edges path : List ℕ) (r : Sums) : Type 0 where
  pub ticks_forward_lem : r.ticks.0 ≡ sum (graph_of [] [] edges).E⁺ path
  pub ticks_back_lem : r.ticks.1 ≡ sum (graph_of [] [] edges).E⁻ path
  pub events_forward : r.events.0 ≡ sum (graph_of [] [] edges).D⁺ path
  pub events_back : r.events.1 ≡ sum (graph_of [] [] edges).D⁻ path
