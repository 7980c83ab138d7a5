-- What a turn of the search keeps, and what it ends with.
use Prim.Native.Nat.{ℕ, ◌+◌, ◌*◌, ◌-◌, ◌/◌, ◌≤◌, ◌<◌}
use mathlib.Core.Path.{◌≡◌, refl, ◌∙◌}
use mathlib.Core.Logic.{◌⊎◌, ◌≢◌, inl, inr}
use mathlib.Core.List.{List}
use Rattle.std.specs.Prelude.{Option, Some, None}
use native.Mathlib.Omega.{arith}
use native.Mathlib.Nat.{mul-le-mul_right}
use lib.ListN.{length, get_or, drop, length-take}
use Rattle.fraction.specs.Lowest.{lowest_terms}
use Rattle.fraction.specs.declared.Fraction.{Fraction}
use Rattle.specification.specs.Periods.{gain, loss, LeastStarts, RateLimit, CycleLimit}
use Rattle.rounds.specs.Walks.{PositiveCycle}
use Rattle.period.specs.Limits.{E⁺, E⁻, D⁺, D⁻, falling_gains}
use Rattle.period.specs.Component.{graph_of, Component, just_above}
use Rattle.rounds.specs.Costs.{Priced, most_cost}
use Rattle.rounds.specs.StartsLaws.{starts_bound}
use Rattle.rounds.specs.Starts.{Stopped, starts as starts_after, row}
use Rattle.rounds.specs.Back.{edges_of, FoundCycle}
use Rattle.rounds.specs.declared.back.Part.{Part}
use Rattle.period.specs.Within.{WithinSteps}
use Rattle.period.specs.Prices.{prices_of}
use Rattle.period.specs.PricesLaws.{prices_small, prices_enclosed, prices_cycle, prices_settled, cycle_edges}
use Rattle.period.specs.ComponentLaws.{component_edges}
use Rattle.period.specs.Greatest.{GreatestLimit}
use Rattle.period.specs.Sums.{Summing, SumsOf}
use Rattle.period.specs.Search.{cycle_of, first_tried, RoundsRun, SearchResult}
use Rattle.period.specs.Try.{Trying}
use Rattle.period.proofs.search.Falls.{left}
use Rattle.period.proofs.search.Floored.{TriedLimit, TriedAt, Floored, floored_small, floored_next, floored_falls, floored_blocks, floored_period, floored_no_least}
use Rattle.period.specs.declared.sums.Sums.{Sums}
use Rattle.period.specs.declared.limit.Limit.{Limit}
use Rattle.period.specs.declared.search.Floor.{Floor}
use Rattle.period.specs.declared.search.Floor.TheVariants.{Rate, Lower, Zero}
use Rattle.period.specs.declared.search.SearchEnd.TheVariants.{Least, NoLeast as EndsWithout, Blocked as EndsBlocked}

-- the buffer has room, and what is known of the a/b that is tried
pub record Searching (ports limits edges : List ℕ) (count : ℕ) (work₀ work : List ℕ) (period : Fraction) (floor : Floor) : Type 0 where
  pub component : Component ports limits edges
  pub counted : length edges / 6 ≡ count
  pub room : 64 * length ports + 64 + 4 * count ≤ length work
  pub same_length : length work ≡ length work₀
  pub floored : Floored (graph_of ports limits edges) period floor

-- the floor at the first a/b
abbrev pub first_floor : Option Limit → Floor
first_floor (Some l) = Rate l.port
first_floor None = Zero

-- the first a/b: the greatest rate limit, or just above zero
first_floored : {ports limits edges : List ℕ} (first : Option Limit) → Component ports limits edges → GreatestLimit ports limits first
    → Floored (graph_of ports limits edges) (first_tried first) (first_floor first)
first_floored (Some l) k h = record {
  over = h.over;
  rates = h.greatest;
  tried = record {
    above_zero = h.above_zero;
    lowest = h.lowest;
    small = record { num = omega (arith, h.small_num); den = omega (arith, h.small_den) };
    is_limit = record { a_port = h.limit.a_port; rated = h.limit.rated; exact = h.limit.exact };
  };
}
first_floored None k h = record {
  over = omega arith;
  rates = λ p m. omega (arith, k.small_limits.unrated p m (h.unrated p m));
  tried = record { is_zero = record { unrated = h.unrated }; num = refl; den = refl };
}

pub searching_first : {ports limits edges work : List ℕ} {count : ℕ} (first : Option Limit) {period : Fraction} {floor : Floor}
    → Component ports limits edges
    → length edges / 6 ≡ count
    → 64 * length ports + 64 + 4 * count ≤ length work
    → GreatestLimit ports limits first → period ≡ first_tried first → floor ≡ first_floor first
    → Searching ports limits edges count work work period floor
searching_first first k e r h p f = record {
  component = k;
  counted = e;
  room = r;
  same_length = refl;
  floored = rw (p, f) (first_floored first k h);
}

module _ {ports limits edges work₀ work : List ℕ} {count : ℕ} {period : Fraction} {floor : Floor}
    (s : Searching ports limits edges count work₀ work period floor) where
  priced : Priced (prices_of edges period.num period.den)
  priced = prices_small s.component (floored_small s.floored).small

  pub searching_tries : Trying edges count period.num period.den (length ports) work
  searching_tries = record {
    counted = s.counted;
    small_edges = component_edges s.component;
    small_period = (floored_small s.floored).small;
    priced = priced;
    enclosed = prices_enclosed s.component period.num period.den;
    some = s.component.some_port_lem;
    few = s.component.few_ports;
    work_room = s.room;
  }

  -- the rounds stopped: a/b is the period or, above the floor zero, there is no least
  module _ {work' : List ℕ} {r : ℕ} (h : Stopped (prices_of edges period.num period.den) work' (length ports) r) where
    made : row work' (r + 1 - 1) ≡ starts_after (prices_of edges period.num period.den) r
    made = let e : r + 1 - 1 ≡ r = omega arith in rw e (h.kept.rows_are r (omega arith))

    least : LeastStarts (graph_of ports limits edges) period.num period.den (λ p. get_or (row work' (r + 1 - 1)) p 0)
    least = rw made (prices_settled s.component period.num period.den r h.still)

    run : RoundsRun (prices_of edges period.num period.den) (row work' (r + 1 - 1)) (length ports) (r + 1)
    run = record { changing = r; is = omega arith; within = omega (arith, h.within); moved = h.moved; still = h.still; made = made }

    found : (x : Floor) → TriedLimit (graph_of ports limits edges) x period.num period.den
        → ((p : ℕ) × RateLimit (graph_of ports limits edges) p period.num period.den)
        ⊎ ((path : List ℕ) × CycleLimit (graph_of ports limits edges) path period.num period.den)
        → SearchResult ports limits edges work' (Least period x (r + 1))
    found x t l = record {
      period = floored_period s.floored t l least;
      shown = t.is_limit;
      least = least;
      run = run;
      small = t.small;
      small_starts = λ p. rw made (omega (arith, starts_bound (prices_of edges period.num period.den) priced r p, mul-le-mul_right most_cost h.within, mul-le-mul_right most_cost s.component.few_ports));
    }

    by : (x : Floor) → x ≢ Zero → TriedAt (graph_of ports limits edges) x period.num period.den → SearchResult ports limits edges work' (Least period x (r + 1))
    by (Rate p) d t = found (Rate p) t (inl (p, t.is_limit))
    by (Lower c) d t = found (Lower c) t (inr (cycle_of c, t.is_limit))
    by Zero d t = absurd (d refl)

    pub searching_settled : floor ≢ Zero → SearchResult ports limits edges work' (Least period floor (r + 1))
    searching_settled d = by floor d s.floored.tried

    pub searching_without : floor ≡ Zero → SearchResult ports limits edges work' (EndsWithout (r + 1))
    searching_without e =
        let t : TriedAt (graph_of ports limits edges) Zero period.num period.den = rw e at s.floored.tried in
        record {
          no_least_lem = floored_no_least s.component s.floored t least;
          is_zero = t.is_zero;
          run = rw (t.num, t.den) at run;
        }

  -- a cycle that is positive at a/b
  module _ {steps : List ℕ} {part : Part} (found : FoundCycle (prices_of edges period.num period.den) steps part) where
    positive : PositiveCycle (graph_of ports limits edges) (gain (graph_of ports limits edges) period.num period.den) (loss (graph_of ports limits edges) period.num period.den) (edges_of steps part)
    positive = prices_cycle ports limits edges period.num period.den found.cycle

    pub searching_sums : Summing edges (edges_of steps part)
    searching_sums = record {
      few = omega (arith, found.short, length-take (part.last - part.first) (drop part.first steps));
      edges_of_lem = cycle_edges positive.cycle;
      small = component_edges s.component;
    }

    module _ {path : List ℕ} (same : path ≡ edges_of steps part) {sums : Sums} (sums_are : SumsOf edges path sums) where
      m : SumsOf edges (edges_of steps part) sums
      m = rw same at sums_are

      -- D zero or more: it blocks
      pub searching_blocked : {within : WithinSteps steps part} (work' : List ℕ) → sums.events.1 ≤ sums.events.0
          → SearchResult ports limits edges work' (EndsBlocked floor (record { steps = steps; part = part; within = within }) (length ports))
      searching_blocked work' rises = record {
        is_blocked = floored_blocks s.component.among s.component.few_ports s.component.small_edges s.floored positive (omega (arith, m));
        all_rounds = refl;
      }

      -- D below zero: the search goes on at the cycle's lower limit
      module _ (falls : sums.events.0 < sums.events.1) where
        falling : D⁺ (graph_of ports limits edges) (edges_of steps part) < D⁻ (graph_of ports limits edges) (edges_of steps part)
        falling = omega (arith, m)

        pub searching_gains : sums.ticks.1 < sums.ticks.0
        searching_gains = omega (arith, m, falling_gains (graph_of ports limits edges) (edges_of steps part) period.num period.den positive.positive falling)

        module _ {period' : Fraction} (e : period' ≡ lowest_terms (sums.ticks.0 - sums.ticks.1) (sums.events.1 - sums.events.0)) where
          lowest_limit : period' ≡ lowest_terms (E⁺ (graph_of ports limits edges) (edges_of steps part) - E⁻ (graph_of ports limits edges) (edges_of steps part)) (D⁻ (graph_of ports limits edges) (edges_of steps part) - D⁺ (graph_of ports limits edges) (edges_of steps part))
          lowest_limit = rw (← m.ticks_forward_lem, ← m.ticks_back_lem, ← m.events_forward, ← m.events_back) e

          pub searching_falls : left just_above period'.num period'.den < left just_above period.num period.den
          searching_falls = floored_falls s.component.among s.component.few_ports s.component.small_edges s.floored positive falling lowest_limit

          pub searching_next : {within : WithinSteps steps part} {work' : List ℕ} → length work' ≡ length work
              → Searching ports limits edges count work₀ work' period' (Lower (record { steps = steps; part = part; within = within }))
          searching_next longer = record {
            component = s.component;
            counted = s.counted;
            room = omega (arith, s.room);
            same_length = longer ∙ s.same_length;
            floored = floored_next s.component.among s.component.few_ports s.component.small_edges s.floored positive falling lowest_limit refl;
          }
