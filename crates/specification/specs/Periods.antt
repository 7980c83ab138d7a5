-- The constraint graph of a component: its connections, at the weights of their senders; its periods, limits and starts.
use Rattle.std.specs.Prelude.{ℕ, ◌+◌, ◌*◌, ◌/◌, ◌≤◌, ◌<◌, ◌≡◌, ◌⊎◌, List, [], ◌∷◌, map}
use Rattle.numbers.specs.Divisors.{Coprime}
use Rattle.numbers.specs.Lists.{sum, Distinct}
use Rattle.specification.specs.Table.{Table, port, IsPort, IsConnection, from, to, ε⁺, ε⁻, δ°}
use Rattle.specification.specs.Ratios.{Component, weighed⁺, weighed⁻}

-- ports, and edges that cost E + D · a/b
pub record Graph : Type 1 where
  pub IsPort : ℕ → Type 0
  -- a port's rate limit is limitNum / limitDen: no smaller a/b serves it. Both are 0 where the port has no rate: every a/b serves it
  pub limit_num : ℕ → ℕ
  pub limit_den : ℕ → ℕ
  pub IsEdge : ℕ → Type 0
  pub from : ℕ → ℕ
  pub to : ℕ → ℕ
  -- E and D of an edge, each an amount forward and an amount back
  pub E⁺ : ℕ → ℕ
  pub E⁻ : ℕ → ℕ
  pub D⁺ : ℕ → ℕ
  pub D⁻ : ℕ → ℕ

module _ (g : Graph) where
  -- consecutive edges, by their numbers
  pub data Walk : ℕ → ℕ → List ℕ → Type 0 where
    stop : {p : ℕ} → Walk p p []
    step : {q : ℕ} {path : List ℕ} (k : ℕ) → g.IsEdge k → Walk (g.to k) q path → Walk (g.from k) q (k ∷ path)

  -- the ports that a path comes to
  abbrev pub reached : List ℕ → List ℕ
  reached path = map g.to path

  -- what an edge adds at a/b, times b, is gain − loss
  abbrev pub gain : ℕ → ℕ → ℕ → ℕ
  gain a b k = g.E⁺ k * b + g.D⁺ k * a

  abbrev pub loss : ℕ → ℕ → ℕ → ℕ
  loss a b k = g.E⁻ k * b + g.D⁻ k * a

  -- (2) at a/b, every start over b
  pub record Meets (a b : ℕ) (S : ℕ → ℕ) : Type 0 where
    pub holds : (k : ℕ) → g.IsEdge k → S (g.from k) + gain a b k ≤ S (g.to k) + loss a b k

  -- starts that meet (2), none larger than those of any others that do
  pub record LeastStarts (a b : ℕ) (S : ℕ → ℕ) : Type 0 where
    pub meets : Meets a b S
    pub least : (T : ℕ → ℕ) → Meets a b T → (p : ℕ) → g.IsPort p → S p ≤ T p

  -- a simple cycle: a closed walk, no port twice
  pub record Cycle (path : List ℕ) : Type 0 where
    pub at : ℕ
    pub closed : Walk at at path
    pub simple : Distinct (reached path)

  -- a/b serves: no port is faster than its rate, and no cycle is positive
  pub record Serves (a b : ℕ) : Type 0 where
    pub rates : (p : ℕ) → g.IsPort p → g.limit_num p * b ≤ g.limit_den p * a
    pub cycles : (p : ℕ) (path : List ℕ) → Walk p p path → sum (gain a b) path ≤ sum (loss a b) path

  -- a/b is the rate limit of port p, which has a rate
  pub record RateLimit (p a b : ℕ) : Type 0 where
    pub a_port : g.IsPort p
    pub rated : 0 < g.limit_den p
    pub exact : g.limit_num p * b ≡ g.limit_den p * a

  -- a/b is the lower limit of a cycle: D is below zero, and the cycle's weight at a/b is zero
  pub record CycleLimit (path : List ℕ) (a b : ℕ) : Type 0 where
    pub cycle : Cycle path
    pub falling : sum g.D⁺ path < sum g.D⁻ path
    pub exact : sum (gain a b) path ≡ sum (loss a b) path

  -- a cycle that is positive at a/b, with D zero or more
  pub record Blocks (path : List ℕ) (a b : ℕ) : Type 0 where
    pub cycle : Cycle path
    pub rising : sum g.D⁻ path ≤ sum g.D⁺ path
    pub positive : sum (loss a b) path < sum (gain a b) path

  -- no port has a rate, so that zero is a floor under the periods
  pub record ZeroFloor : Type 0 where
    pub unrated : (p : ℕ) → g.IsPort p → g.limit_den p ≡ 0

  -- a cycle that is positive at every a/b above zero, with D zero or more; at zero itself it need not be
  pub record BlocksAboveZero (path : List ℕ) : Type 0 where
    pub cycle : Cycle path
    pub rising : sum g.D⁻ path ≤ sum g.D⁺ path
    pub positive : (a b : ℕ) → 0 < a → 0 < b → sum (loss a b) path < sum (gain a b) path

  -- document 01: the greatest of the rate limits and the lower limits, provided no cycle with D zero or more is positive there
  pub record Period (a b : ℕ) : Type 0 where
    pub above_zero : 0 < a
    pub over : 0 < b
    pub lowest : Coprime a b
    pub serves : Serves a b
    pub limit : ((p : ℕ) × RateLimit p a b) ⊎ ((path : List ℕ) × CycleLimit path a b)

  -- a/b above zero with starts, over b, that meet (2), and no port faster than its rate
  pub record Possible (a b : ℕ) : Type 0 where
    pub above_zero : 0 < a
    pub over : 0 < b
    pub rates : (p : ℕ) → g.IsPort p → g.limit_num p * b ≤ g.limit_den p * a
    pub start : ℕ → ℕ
    pub meets : Meets a b start

  pub record HasPeriod : Type 0 where
    pub a : ℕ
    pub b : ℕ
    pub possible : Possible a b

  -- x/y is possible and below a/b
  pub record SmallerPeriod (a b : ℕ) : Type 0 where
    pub x : ℕ
    pub y : ℕ
    pub possible : Possible x y
    pub less : x * b < a * y

  -- periods but no least one: below each a/b that serves another is possible
  pub record NoLeast : Type 0 where
    pub some : HasPeriod
    pub smaller : (a b : ℕ) → 0 < a → 0 < b → Serves a b → SmallerPeriod a b

-- ---- the graph of a component of a table
module _ (t : Table) where
  -- a port of component c
  pub record PortIn (c p : ℕ) : Type 0 where
    pub a_port : IsPort t p
    pub component : Component t p c

  -- a connection of component c; a buffer takes no part in (2)
  pub record ConnectionIn (c k : ℕ) : Type 0 where
    pub connection : IsConnection t k
    pub component : Component t (from t k) c

  -- the rate limit of a port is 1 divided by rate times weight, and 0/0 for the rate 0/0; E of an edge is ε, D is δ times the sender's
  -- weight, a whole number at the weights
  abbrev pub graph_in : (ℕ → ℕ) → ℕ → Graph
  graph_in w c = record {
    IsPort = PortIn c;
    limit_num = λ p. (port t p).den;
    limit_den = λ p. (port t p).num * w p;
    IsEdge = ConnectionIn c;
    from = from t;
    to = to t;
    E⁺ = ε⁺ t;
    E⁻ = ε⁻ t;
    D⁺ = λ k. weighed⁺ t w k / δ° t k;
    D⁻ = λ k. weighed⁻ t w k / δ° t k;
  }
