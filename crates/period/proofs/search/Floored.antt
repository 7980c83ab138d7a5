-- What the search knows of the a/b that it tries: it is the floor's limit, and at the floor zero it is just above zero.
use Prim.Native.Nat.{ℕ, ◌*◌, ◌-◌, ◌≤◌, ◌<◌}
use mathlib.Core.Path.{◌≡◌, sym, ap}
use mathlib.Core.Logic.{◌⊎◌}
use mathlib.Core.List.{List}
use native.Mathlib.Omega.{arith}
use native.Mathlib.Nat.{le_of_mul-le-mul_right, mul-le-mul_right, mul-lt-mul_of_pos_right, lt_of_mul-lt-mul_right, le_trans}
use lib.ListN.{length}
use Rattle.numbers.specs.Divisors.{Coprime}
use Rattle.fraction.specs.Lowest.{lowest_terms, IsLowest, lowest_is, lowest_small, lowest_above_zero}
use Rattle.fraction.specs.declared.Fraction.{Fraction}
use Rattle.numbers.specs.Lists.{sum}
use Rattle.specification.specs.Periods.{Graph, gain, loss, LeastStarts, RateLimit, CycleLimit, Blocks, Period, ZeroFloor, NoLeast}
use Rattle.specification.specs.Answers.{Blocked}
use Rattle.rounds.specs.Walks.{Among, cycle_bound, PositiveCycle}
use Rattle.period.specs.Limits.{E⁺, E⁻, D⁺, D⁻, GreaterLimit, falling_limit, limit_scaled, serves_meets}
use Rattle.period.specs.Component.{graph_of, Component, SmallEdges, SmallTried, most_amount, most_rate, just_above}
use Rattle.period.specs.JustAbove.{rising_above_zero, no_least_above_zero}
use Rattle.period.specs.Search.{SmallPeriod, IsLimit, cycle_of, floor_in}
use Rattle.period.proofs.search.Falls.{left, left_falls}
use Rattle.period.specs.declared.cycle.Cycle.{Cycle}
use Rattle.period.specs.declared.search.Floor.{Floor}
use Rattle.period.specs.declared.search.Floor.TheVariants.{Rate, Lower, Zero}

-- a/b is the floor's limit
pub record TriedLimit (g : Graph) (floor : Floor) (a b : ℕ) : Type 0 where
  pub above_zero : 0 < a
  pub lowest : Coprime a b
  pub small : SmallPeriod a b
  pub is_limit : IsLimit g floor a b

-- the floor is zero, and a/b just above it
pub record TriedAboveZero (g : Graph) (a b : ℕ) : Type 0 where
  pub is_zero : ZeroFloor g
  pub num : a ≡ 1
  pub den : b ≡ just_above

-- the a/b that is tried at a floor
abbrev pub TriedAt : Graph → Floor → (a b : ℕ) → Type 0
TriedAt g (Rate p) a b = TriedLimit g (Rate p) a b
TriedAt g (Lower c) a b = TriedLimit g (Lower c) a b
TriedAt g Zero a b = TriedAboveZero g a b

pub record Floored (g : Graph) (period : Fraction) (floor : Floor) : Type 0 where
  pub over : 0 < period.den
  pub rates : (p : ℕ) → g.IsPort p → g.limit_num p * period.den ≤ g.limit_den p * period.num
  pub tried : TriedAt g floor period.num period.den

-- what pricing and the measure ask of its parts
pub record TriedSmall (a b : ℕ) : Type 0 where
  pub small : SmallTried a b
  pub den : b ≤ just_above

tried_small : (g : Graph) (floor : Floor) (a b : ℕ) → TriedAt g floor a b → TriedSmall a b
tried_small g (Rate p) a b t = record { small = record { sum = omega (arith, t.small) }; den = omega (arith, t.small) }
tried_small g (Lower c) a b t = record { small = record { sum = omega (arith, t.small) }; den = omega (arith, t.small) }
tried_small g Zero a b t = record { small = record { sum = omega (arith, t) }; den = omega (arith, t) }

pub floored_small : {g : Graph} {period : Fraction} {floor : Floor} → Floored g period floor → TriedSmall period.num period.den
floored_small {g} {period} {floor} f = tried_small g floor period.num period.den f.tried

-- what a greater a/b keeps of a rate limit
rate_grows : (n d a b a' b' : ℕ) → 0 < b → a * b' < a' * b → n * b ≤ d * a → n * b' ≤ d * a'
rate_grows n d a b a' b' over greater h =
    le_of_mul-le-mul_right {k = b} (omega (arith, mul-le-mul_right b' h, mul-le-mul_right d greater)) over

-- a fraction of equal value is greater too
greater_lowest : (a b e v a' b' : ℕ) → 0 < b' → a * v < e * b → a' * v ≡ e * b' → a * b' < a' * b
greater_lowest a b e v a' b' over greater same =
    lt_of_mul-lt-mul_right v (omega (arith, mul-lt-mul_of_pos_right greater over, ap (λ (x : ℕ). x * b) same))

module _ {g : Graph} {ports : List ℕ} (among : Among g ports) (few : length ports ≤ 64) (small : SmallEdges g) {period : Fraction} {floor : Floor}
    (f : Floored g period floor) {path : List ℕ}
    (c : PositiveCycle g (gain g period.num period.den) (loss g period.num period.den) path) where
  -- a sum over the cycle of a part of its edges
  sum_small : (part : ℕ → ℕ) → ((k : ℕ) → g.IsEdge k → part k ≤ most_amount) → sum part path ≤ most_rate
  sum_small part h = le_trans (cycle_bound among part most_amount h c.cycle) (omega (arith, mul-le-mul_right most_amount few))

  -- D below zero: a/b rises to the cycle's lower limit
  module _ (falls : D⁺ g path < D⁻ g path) where
    raised : GreaterLimit g path period.num period.den (E⁺ g path - E⁻ g path) (D⁻ g path - D⁺ g path)
    raised = falling_limit c.cycle c.positive falls

    next : Fraction
    next = lowest_terms (E⁺ g path - E⁻ g path) (D⁻ g path - D⁺ g path)

    is_lowest : IsLowest (E⁺ g path - E⁻ g path) (D⁻ g path - D⁺ g path) next
    unfolding next
    is_lowest = lowest_is (E⁺ g path - E⁻ g path) (D⁻ g path - D⁺ g path) raised.over

    next_limit : CycleLimit g path next.num next.den
    next_limit = limit_scaled (sym is_lowest.equal) raised.over raised.limit

    next_greater : period.num * next.den < next.num * period.den
    next_greater =
        greater_lowest period.num period.den (E⁺ g path - E⁻ g path) (D⁻ g path - D⁺ g path) next.num next.den is_lowest.over raised.greater
        is_lowest.equal

    next_small : SmallPeriod next.num next.den
    unfolding next
    next_small = record {
      num = omega (arith, (lowest_small (E⁺ g path - E⁻ g path) (D⁻ g path - D⁺ g path)).0, sum_small g.E⁺ small.ticks_forward_lem);
      den = omega (arith, (lowest_small (E⁺ g path - E⁻ g path) (D⁻ g path - D⁺ g path)).1, sum_small g.D⁻ small.events_back);
    }

    pub floored_next : {period' : Fraction} {limit : Cycle} → period' ≡ lowest_terms (E⁺ g path - E⁻ g path) (D⁻ g path - D⁺ g path)
        → path ≡ cycle_of limit
        → Floored g period' (Lower limit)
    unfolding next
    floored_next e same = rw e (record {
      over = is_lowest.over;
      rates = λ p m. rate_grows (g.limit_num p) (g.limit_den p) period.num period.den next.num next.den f.over next_greater (f.rates p m);
      tried = record {
        above_zero = lowest_above_zero raised.above_zero raised.over;
        lowest = is_lowest.lowest;
        small = next_small;
        is_limit = rw (sym same) next_limit;
      };
    })

    pub floored_falls : {period' : Fraction} → period' ≡ lowest_terms (E⁺ g path - E⁻ g path) (D⁻ g path - D⁺ g path)
        → left just_above period'.num period'.den < left just_above period.num period.den
    unfolding next
    floored_falls e = rw e
        (left_falls just_above period.num period.den next.num next.den f.over is_lowest.over (floored_small f).den
        (omega (arith, next_small)) (omega (arith, next_small)) next_greater)

  -- D zero or more: the cycle blocks, at a/b and above or, from the floor zero, at every a/b above zero
  pub floored_blocks : D⁻ g path ≤ D⁺ g path → Blocked g (floor_in floor) path
  floored_blocks rises = by floor f.tried
    where
      blocks : Blocks g path period.num period.den
      blocks = record { cycle = c.cycle; rising = rises; positive = c.positive }

      by : (x : Floor) → TriedAt g x period.num period.den → Blocked g (floor_in x) path
      by (Rate p) t = record { a = period.num; b = period.den; above_zero = t.above_zero; over = f.over; is_limit = t.is_limit; blocks = blocks }
      by (Lower c) t = record { a = period.num; b = period.den; above_zero = t.above_zero; over = f.over; is_limit = t.is_limit; blocks = blocks }
      by Zero t = record {
        is_zero = t.is_zero;
        blocks = rising_above_zero among few small c.cycle (rw (t.num, t.den) at c.positive) rises;
      }

-- starts that meet (2) make a/b the period, where it is a limit
pub floored_period : {g : Graph} {period : Fraction} {floor shown : Floor} {S : ℕ → ℕ} → Floored g period floor
    → TriedLimit g shown period.num period.den
    → ((p : ℕ) × RateLimit g p period.num period.den) ⊎ ((path : List ℕ) × CycleLimit g path period.num period.den)
    → LeastStarts g period.num period.den S
    → Period g period.num period.den
floored_period f t l s = record {
  above_zero = t.above_zero;
  over = f.over;
  lowest = t.lowest;
  serves = serves_meets s.meets f.rates;
  limit = l;
}

-- and just above zero they leave no least one
pub floored_no_least : {ports limits edges : List ℕ} {period : Fraction} {floor : Floor} {S : ℕ → ℕ} → Component ports limits edges
    → Floored (graph_of ports limits edges) period floor
    → TriedAboveZero (graph_of ports limits edges) period.num period.den
    → LeastStarts (graph_of ports limits edges) period.num period.den S
    → NoLeast (graph_of ports limits edges)
floored_no_least k f t s = no_least_above_zero k t.is_zero (rw (t.num, t.den) at (serves_meets s.meets f.rates))
