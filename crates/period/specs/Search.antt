-- What the search for the least period of a component ends with.
use Rattle.std.specs.Prelude.{ℕ, suc, ◌*◌, ◌-◌, ◌≤◌, ◌<◌, ◌≡◌, ◌≢◌, List, length, get_or, Option, Some, None}
use Rattle.fraction.specs.declared.Fraction.{Fraction}
use Rattle.specification.specs.Periods.{Graph, LeastStarts, RateLimit, CycleLimit, Period, ZeroFloor, NoLeast}
use Rattle.specification.specs.Answers.{Blocked, rate, cycle, zero_floor}
use Rattle.specification.specs.Answers.{Floor as ShownFloor}
use Rattle.period.specs.Component.{graph_of, most_rate, just_above}
use Rattle.period.specs.Prices.{prices_of}
use Rattle.rounds.specs.Costs.{most_cost}
use Rattle.rounds.specs.Starts.{starts, row}
use Rattle.rounds.specs.Back.{edges_of}
use Rattle.period.specs.declared.cycle.Cycle.{Cycle}
use Rattle.period.specs.declared.limit.Limit.{Limit}
use Rattle.period.specs.declared.search.Floor.{Floor}
use Rattle.period.specs.declared.search.Floor.TheVariants.{Rate, Lower, Zero}
use Rattle.period.specs.declared.search.SearchEnd.{SearchEnd}
use Rattle.period.specs.declared.search.SearchEnd.TheVariants.{Least, NoLeast as EndsWithout, Blocked as EndsBlocked}

-- the numbers of a cycle's edges, in walking order
abbrev pub cycle_of : Cycle → List ℕ
cycle_of c = edges_of c.steps c.part

-- the limit that a floor is: the rate limit of a port, or the lower limit of the cycle
abbrev pub IsLimit : Graph → Floor → (a b : ℕ) → Type 0
IsLimit g (Rate p) a b = RateLimit g p a b
IsLimit g (Lower c) a b = CycleLimit g (cycle_of c) a b
IsLimit g Zero a b = ⊥

-- the floor in the words of the answers
abbrev pub floor_in : Floor → ShownFloor
floor_in (Rate p) = rate p
floor_in (Lower c) = cycle (cycle_of c)
floor_in Zero = zero_floor

-- the first a/b that is tried: the greatest rate limit, or just above zero
abbrev pub first_tried : Option Limit → Fraction
first_tried (Some l) = l.value
first_tried None = record { num = 1; den = just_above }

-- the rounds run at a/b: each but the last changed something, and the starts are those that the last left as they were
pub record RoundsRun (cs starts' : List ℕ) (n rounds : ℕ) : Type 0 where
  pub changing : ℕ
  pub is : rounds ≡ suc changing
  pub within : rounds ≤ n
  pub moved : (q : ℕ) → q < changing → starts cs (suc q) ≢ starts cs q
  pub still : starts cs (suc changing) ≡ starts cs changing
  pub made : starts' ≡ starts cs changing

-- neither part of a/b is large
pub record SmallPeriod (a b : ℕ) : Type 0 where
  pub num : a ≤ most_rate
  pub den : b ≤ most_rate

-- the most of a start times b: what 64 edges gain
abbrev pub most_start : ℕ
most_start = 64 * most_cost

module _ (ports limits edges : List ℕ) where
  -- the least period, which limit it is, and the least starts, which the last round left as they were
  pub record FoundPeriod (period_is : Fraction) (floor : Floor) (rounds : ℕ) (starts' : List ℕ) : Type 0 where
    pub period : Period (graph_of ports limits edges) period_is.num period_is.den
    pub shown : IsLimit (graph_of ports limits edges) floor period_is.num period_is.den
    pub least : LeastStarts (graph_of ports limits edges) period_is.num period_is.den (λ p. get_or starts' p 0)
    pub run : RoundsRun (prices_of edges period_is.num period_is.den) starts' (length ports) rounds
    pub small : SmallPeriod period_is.num period_is.den
    pub small_starts : (p : ℕ) → get_or starts' p 0 ≤ most_start

  -- periods but no least one, since no port has a rate and the rounds stop just above zero
  pub record FoundNoLeast (rounds : ℕ) (starts' : List ℕ) : Type 0 where
    pub no_least_lem : NoLeast (graph_of ports limits edges)
    pub is_zero : ZeroFloor (graph_of ports limits edges)
    pub run : RoundsRun (prices_of edges 1 just_above) starts' (length ports) rounds

  -- a floor, and a cycle that blocks every period above it: as many rounds as there are ports were run
  pub record FoundBlock (floor : Floor) (block : Cycle) (rounds : ℕ) : Type 0 where
    pub is_blocked : Blocked (graph_of ports limits edges) (floor_in floor) (cycle_of block)
    pub all_rounds : rounds ≡ length ports

  abbrev pub SearchResult : (work' : List ℕ) → SearchEnd → Type 0
  SearchResult work' (Least period floor rounds) = FoundPeriod period floor rounds (row work' (rounds - 1))
  SearchResult work' (EndsWithout rounds) = FoundNoLeast rounds (row work' (rounds - 1))
  SearchResult work' (EndsBlocked floor block rounds) = FoundBlock floor block rounds
