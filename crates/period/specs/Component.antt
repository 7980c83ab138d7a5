-- A component as lists of numbers, and its graph.
use Rattle.std.specs.Prelude.{ℕ, ◌+◌, ◌*◌, ◌/◌, ◌≤◌, ◌<◌, ◌≡◌, List, length, get_or}
use Rattle.numbers.specs.Lists.{◌∈◌}
use Rattle.specification.specs.Periods.{Graph}
use Rattle.rounds.specs.Walks.{Among}

-- ports: the numbers of the ports. limits: for each port number the two parts of its rate limit.
-- edges: six numbers to an edge: from, to, E forward and back, D forward and back
abbrev pub graph_of : (ports limits edges : List ℕ) → Graph
graph_of ports limits edges = record {
  IsPort = λ p. p ∈ ports;
  limit_num = λ p. get_or limits (2 * p) 0;
  limit_den = λ p. get_or limits (2 * p + 1) 0;
  IsEdge = λ k. k < length edges / 6;
  from = λ k. get_or edges (6 * k) 0;
  to = λ k. get_or edges (6 * k + 1) 0;
  E⁺ = λ k. get_or edges (6 * k + 2) 0;
  E⁻ = λ k. get_or edges (6 * k + 3) 0;
  D⁺ = λ k. get_or edges (6 * k + 4) 0;
  D⁻ = λ k. get_or edges (6 * k + 5) 0;
}

-- the most of E or D of an edge: 10,000,000 ticks; 1,000 events times a weight of 10,000
abbrev pub most_amount : ℕ
most_amount = 10_000_000

-- the most of a and b of a period: 64 edges' parts
abbrev pub most_rate : ℕ
most_rate = 640_000_000

-- 1 divided by this is just above zero: below every lower limit of a cycle, since D of a simple cycle is at most 64 edges' parts
abbrev pub just_above : ℕ
just_above = 640_000_001

-- the a/b that are tried: just above zero b passes the most of a period by one, so a and b are bound together
pub record SmallTried (a b : ℕ) : Type 0 where
  pub sum : a + b ≤ 2 * most_rate

-- no part of an edge is large
pub record SmallEdges (g : Graph) : Type 0 where
  pub ticks_forward_lem : (k : ℕ) → g.IsEdge k → g.E⁺ k ≤ most_amount
  pub ticks_back_lem : (k : ℕ) → g.IsEdge k → g.E⁻ k ≤ most_amount
  pub events_forward : (k : ℕ) → g.IsEdge k → g.D⁺ k ≤ most_amount
  pub events_back : (k : ℕ) → g.IsEdge k → g.D⁻ k ≤ most_amount

-- every port has a rate limit above zero, with small parts, or no rate and 0 for both
pub record SmallLimits (g : Graph) : Type 0 where
  pub rated : (p : ℕ) → g.IsPort p → 0 < g.limit_den p → 0 < g.limit_num p
  pub unrated : (p : ℕ) → g.IsPort p → g.limit_den p ≡ 0 → g.limit_num p ≡ 0
  pub num_most : (p : ℕ) → g.IsPort p → g.limit_num p ≤ most_amount
  pub den_most : (p : ℕ) → g.IsPort p → g.limit_den p ≤ most_amount

-- what the lists of a component satisfy: up to 64 ports, their numbers below 64, and the edges between them
pub record Component (ports limits edges : List ℕ) : Type 0 where
  pub some_port_lem : 0 < length ports
  pub few_ports : length ports ≤ 64
  pub low_ports : (p : ℕ) → p ∈ ports → p < 64
  pub among : Among (graph_of ports limits edges) ports
  pub small_edges : SmallEdges (graph_of ports limits edges)
  pub small_limits : SmallLimits (graph_of ports limits edges)
