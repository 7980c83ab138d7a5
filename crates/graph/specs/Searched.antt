-- What the search for the least period of a component says in the table's own terms.
use Rattle.std.specs.Prelude.{ℕ, ◌-◌, ◌≤◌, ◌<◌, ◌≡◌, List, map, length, get_or}
use Rattle.fraction.specs.declared.Fraction.{Fraction}
use Rattle.numbers.specs.Lists.{◌∈◌}
use Rattle.specification.specs.Periods.{LeastStarts, Period, NoLeast, PortIn, graph_in}
use Rattle.specification.specs.Table.{Table}
use Rattle.rounds.specs.Starts.{row}
use Rattle.period.specs.Search.{cycle_of, SmallPeriod, most_start}
use Rattle.period.specs.declared.cycle.Cycle.{Cycle}
use Rattle.period.specs.declared.search.Floor.{Floor as Found}
use Rattle.period.specs.declared.search.Floor.TheVariants.{Rate, Lower, Zero}
use Rattle.period.specs.declared.search.SearchEnd.{SearchEnd}
use Rattle.period.specs.declared.search.SearchEnd.TheVariants.{Least, NoLeast as EndsWithout, Blocked as EndsBlocked}
use Rattle.specification.specs.Answers.{Floor, rate, cycle, zero_floor, Blocked}

-- the connections of a cycle, by their numbers
abbrev pub connections_of : List ℕ → Cycle → List ℕ
connections_of numbers c = map (λ i. get_or numbers i 0) (cycle_of c)

abbrev pub floor_of : List ℕ → Found → Floor
floor_of numbers (Rate p) = rate p
floor_of numbers (Lower c) = cycle (connections_of numbers c)
floor_of numbers Zero = zero_floor

module _ (t : Table) (weights : List ℕ) (c : ℕ) where
  -- the period of component c and its least starts
  pub record PeriodIn (period_is : Fraction) (starts : List ℕ) : Type 0 where
    pub period : Period (graph_in t (λ p. get_or weights p 0) c) period_is.num period_is.den
    pub least : LeastStarts (graph_in t (λ p. get_or weights p 0) c) period_is.num period_is.den (λ p. get_or starts p 0)
    pub small : SmallPeriod period_is.num period_is.den
    pub small_starts : (p : ℕ) → PortIn t c p → get_or starts p 0 ≤ most_start

  -- a floor of component c and a cycle that blocks every period above it
  pub record BlockIn (floor : Found) (block : Cycle) (numbers : List ℕ) : Type 0 where
    pub is_blocked : Blocked (graph_in t (λ p. get_or weights p 0) c) (floor_of numbers floor) (connections_of numbers block)
    pub limit_steps : (limit : Cycle) → floor ≡ Lower limit → (i : ℕ) → i ∈ cycle_of limit → i < length numbers
    pub block_steps : (i : ℕ) → i ∈ cycle_of block → i < length numbers

  abbrev pub Searched : (numbers work : List ℕ) → SearchEnd → Type 0
  Searched numbers work (Least period floor rounds) = PeriodIn period (row work (rounds - 1))
  Searched numbers work (EndsWithout rounds) = NoLeast (graph_in t (λ p. get_or weights p 0) c)
  Searched numbers work (EndsBlocked floor block rounds) = BlockIn floor block numbers
