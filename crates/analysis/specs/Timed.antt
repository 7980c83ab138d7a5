-- The periods and starts of a table's components, and what timing one of them comes to.
use Rattle.std.specs.Prelude.{ℕ, ◌+◌, ◌≤◌, ◌<◌, ◌≡◌, List, ◌++◌, length, get_or}
use Rattle.fraction.specs.declared.Fraction.{Fraction}
use Rattle.specification.specs.Bytes.{Written, cycle_answer}
use Rattle.numbers.specs.Lists.{◌∈◌}
use Rattle.specification.specs.Periods.{LeastStarts, Period, HasPeriod, NoLeast, PortIn, graph_in}
use Rattle.specification.specs.Table.{Table}
use Rattle.period.specs.Search.{SmallPeriod, most_start}
use Rattle.specification.specs.Answers.{Floor, floor_record, NoPeriod}
use Rattle.specification.specs.Ratios.{IsComponent}
use Rattle.graph.specs.Arranged.{Labelled, SlicesIn}
use Rattle.results.specs.Kept.{none_kept, component_at, a_at, b_at, start_at}
use Rattle.results.specs.declared.kept.Kept.{Kept}
use Rattle.analysis.specs.Decided.{shown_in}
use Rattle.analysis.specs.declared.periods.Timed.{Timed}
use Rattle.analysis.specs.declared.periods.Timed.TheVariants.{Least, NoLeast as Without, Shown as Shows}

-- the ports of a component by their numbers, the lowest first
pub record Members (members : List ℕ) : Type 0 where
  pub some : 0 < length members
  pub low : (p : ℕ) → p ∈ members → p < 64

-- these ports hold their lowest as their component, this period and these starts; nothing else changed
pub record IsKept (members : List ℕ) (period : Fraction) (starts : List ℕ) (kept kept' : List Kept) : Type 0 where
  pub same_length : length kept' ≡ length kept
  pub own : (p : ℕ) → p ∈ members → get_or kept' p none_kept ≡ record { component = get_or members 0 0; period = period; start = get_or starts p 0 }
  pub others : (p : ℕ) → ¬ (p ∈ members) → get_or kept' p none_kept ≡ get_or kept p none_kept

module _ (t : Table) (weights : List ℕ) (kept : List Kept) where
  -- the ports of component c hold its period and its least starts
  pub record TimedIn (c : ℕ) : Type 0 where
    pub a : ℕ
    pub b : ℕ
    pub period : Period (graph_in t (λ p. get_or weights p 0) c) a b
    pub least : LeastStarts (graph_in t (λ p. get_or weights p 0) c) a b (start_at kept)
    pub small : SmallPeriod a b
    pub component_is : (p : ℕ) → PortIn t c p → component_at kept p ≡ c
    pub a_is : (p : ℕ) → PortIn t c p → a_at kept p ≡ a
    pub b_is : (p : ℕ) → PortIn t c p → b_at kept p ≡ b
    pub small_starts : (p : ℕ) → PortIn t c p → start_at kept p ≤ most_start

  -- those of the components below n
  pub record TimedBelow (n : ℕ) : Type 0 where
    pub long : length kept ≡ 64
    pub each : (c : ℕ) → IsComponent t c → c < n → TimedIn c

-- every component below n has a period
pub record PeriodsBelow (t : Table) (weights : List ℕ) (n : ℕ) : Type 0 where
  pub each : (c : ℕ) → IsComponent t c → c < n → HasPeriod (graph_in t (λ p. get_or weights p 0) c)

-- some component has no least
pub record SomeNoLeast (t : Table) (weights : List ℕ) : Type 0 where
  pub c : ℕ
  pub component : IsComponent t c
  pub no_least_lem : NoLeast (graph_in t (λ p. get_or weights p 0) c)

-- number 15, shown in the answer buffer unless that is too short
pub record Shown (t : Table) (before after : List ℕ) (r : ℕ) : Type 0 where
  pub floor : Floor
  pub block : List ℕ
  pub no_period : NoPeriod t floor block
  pub records_are : Written (shown_in (length before) (floor_record floor ++ cycle_answer block)) before after r

-- the number that timing comes to
abbrev pub number_of : Timed → ℕ
number_of Least = 0
number_of Without = 17
number_of (Shows n) = 15

-- ---- one component, c
module _ (t : Table) (weights : List ℕ) (c : ℕ) (kept kept' : List Kept) (before after : List ℕ) where
  -- it has a least period, which is kept with those of the components below
  pub record OneLeast : Type 0 where
    pub timed : TimedBelow t weights kept c → TimedBelow t weights kept' (c + 1)
    pub has_period_lem : HasPeriod (graph_in t (λ p. get_or weights p 0) c)
    pub same_length : length kept' ≡ length kept
    pub unchanged : after ≡ before

  -- it has periods but no least
  pub record OneNoLeast : Type 0 where
    pub no_least_lem : NoLeast (graph_in t (λ p. get_or weights p 0) c)
    pub same_length : length kept' ≡ length kept
    pub unchanged : after ≡ before

  -- it has none; where those below have, it is shown
  pub record OneShown (r : ℕ) : Type 0 where
    pub of : PeriodsBelow t weights c → Shown t before after r

  abbrev pub OneTimed : Timed → Type 0
  OneTimed Least = OneLeast
  OneTimed Without = OneNoLeast
  OneTimed (Shows r) = OneShown r

-- ---- what timing asks
-- the ports and connections of one component, named by its lowest port
pub record ComponentSlices (t : Table) (weights members numbers : List ℕ) : Type 0 where
  pub labels : List ℕ
  pub labelled : Labelled t labels weights
  pub component : IsComponent t (get_or members 0 0)
  pub slices : SlicesIn t labels (get_or members 0 0) members numbers
