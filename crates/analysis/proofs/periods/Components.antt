-- The components' periods and starts, one component after the other, and what they come to.
use Prim.Native.Nat.{ℕ, ◌+◌, ◌^◌, ◌<◌, max}
use mathlib.Core.Path.{◌≡◌, ap, sym, ◌∙◌}
use mathlib.Core.Logic.{◌≢◌, ⊎_elim}
use mathlib.Core.List.{List}
use native.Mathlib.Nat.{eq-or-lt_of_le}
use native.Mathlib.Omega.{arith}
use lib.ListN.{get_or}
use Rattle.fraction.specs.declared.Fraction.{Fraction}
use Rattle.numbers.specs.Lists.{◌∈◌}
use Rattle.specification.specs.Periods.{LeastStarts, HasPeriod, PortIn, graph_in}
use Rattle.table.specs.WellFormed.{WellFormed}
use Rattle.specification.specs.Table.{Table, port_count, IsPort, from, to, IsBuffer}
use Rattle.ways.specs.WayLaws.{component_unique}
use Rattle.period.specs.declared.cycle.Cycle.{Cycle}
use Rattle.period.specs.declared.search.Floor.{Floor}
use Rattle.demands.specs.ConstraintLaws.{from_in, to_in, names_component}
use Rattle.specification.specs.Ratios.{IsComponent, SmallWeights}
use Rattle.specification.specs.Answers.{NoPeriod, NoLeastPeriod, Size, Consistent}
use Rattle.graph.specs.Arranged.{Labelled, SlicesIn}
use Rattle.graph.specs.SliceLaws.{port_of_lem, of_port, first_member}
use Rattle.graph.specs.Searched.{connections_of, floor_of, PeriodIn, BlockIn}
use Rattle.specification.specs.Analysed.{FieldsFit}
use Rattle.results.specs.declared.kept.Kept.{Kept}
use Rattle.results.specs.Kept.{component_at, b_at, start_at, TableNumbers, timing_of}
use Rattle.analysis.specs.Timed.{IsKept, TimedIn, TimedBelow, PeriodsBelow, SomeNoLeast}

-- starts that agree on the component's ports are the least together
least_same : {t : Table} {c a b : ℕ} {S T : ℕ → ℕ} (w : ℕ → ℕ) → WellFormed t → ((p : ℕ) → PortIn t c p → S p ≡ T p)
    → LeastStarts (graph_in t w c) a b S
    → LeastStarts (graph_in t w c) a b T
least_same {t} w formed same h = record {
  meets = record { holds = λ k e. omega (arith, h.meets.holds k e, same (from t k) (from_in formed e), same (to t k) (to_in formed e)) };
  least = λ U m p i. omega (arith, h.least U m p i, same p i);
}

-- what holds of the components below c, and of c, holds of those below c + 1
each_next : {t : Table} {c : ℕ} {P : ℕ → Type 0} → ((d : ℕ) → IsComponent t d → d < c → P d) → (IsComponent t c → P c)
    → (d : ℕ) → IsComponent t d → d < c + 1 → P d
each_next {t} {c} {P} below at d i m = ⊎_elim
    (λ (e : d ≡ c). rw e (at (rw e at i)))
    (λ (l : d < c). below d i l)
    (eq-or-lt_of_le (omega arith))

module _ {t : Table} {labels weights : List ℕ} (l : Labelled t labels weights) where
  pub small_weights : SmallWeights t (λ p. get_or weights p 0)
  small_weights = record { weights = l.weighed.are; small = l.weighed.small }

  pub timed_skip : {kept : List Kept} {c : ℕ} → ¬ IsComponent t c → TimedBelow t weights kept c → TimedBelow t weights kept (c + 1)
  timed_skip f h = record { long = h.long; each = each_next h.each (λ i. absurd (f i)) }

  module _ {c : ℕ} {members numbers starts : List ℕ} {kept kept' : List Kept} {a_b : Fraction} (s : SlicesIn t labels c members numbers)
      (k : IsKept members a_b starts kept kept') where
    kept_timed : IsComponent t c → PeriodIn t weights c a_b starts → TimedIn t weights kept' c
    kept_timed component h =
        let member : (p : ℕ) → PortIn t c p → p ∈ members = λ p i. of_port l s i.a_port i.component in
        let start : (p : ℕ) → PortIn t c p → start_at kept' p ≡ get_or starts p 0 = λ p i. ap (λ (x : Kept). x.start) (k.own p (member p i)) in
        record {
          a = a_b.num;
          b = a_b.den;
          period = h.period;
          least = least_same (λ p. get_or weights p 0) l.well_formed (λ p i. sym (start p i)) h.least;
          small = h.small;
          component_is = λ p i. ap (λ (x : Kept). x.component) (k.own p (member p i)) ∙ first_member l s component;
          a_is = λ p i. ap (λ (x : Kept). x.period.num) (k.own p (member p i));
          b_is = λ p i. ap (λ (x : Kept). x.period.den) (k.own p (member p i));
          small_starts = λ p i. omega (arith, start p i, h.small_starts p i);
        }

    other_timed : {d : ℕ} → d ≢ c → TimedIn t weights kept d → TimedIn t weights kept' d
    other_timed {d} f h =
        let other : (p : ℕ) → PortIn t d p → ¬ (p ∈ members) = λ p i m. f (component_unique i.component (port_of_lem l s m).component) in
        record {
          a = h.a;
          b = h.b;
          period = h.period;
          least = least_same (λ p. get_or weights p 0) l.well_formed (λ p i. sym (ap (λ (x : Kept). x.start) (k.others p (other p i)))) h.least;
          small = h.small;
          component_is = λ p i. ap (λ (x : Kept). x.component) (k.others p (other p i)) ∙ h.component_is p i;
          a_is = λ p i. ap (λ (x : Kept). x.period.num) (k.others p (other p i)) ∙ h.a_is p i;
          b_is = λ p i. ap (λ (x : Kept). x.period.den) (k.others p (other p i)) ∙ h.b_is p i;
          small_starts = λ p i. omega (arith, ap (λ (x : Kept). x.start) (k.others p (other p i)), h.small_starts p i);
        }

    pub timed_next : IsComponent t c → PeriodIn t weights c a_b starts → TimedBelow t weights kept c → TimedBelow t weights kept' (c + 1)
    timed_next component p h = record {
      long = k.same_length ∙ h.long;
      each = each_next (λ d i m. other_timed (λ e. omega (arith, e)) (h.each d i m)) (λ i. kept_timed component p);
    }

  -- ---- periods, whether least or not
  pub periods_skip : {c : ℕ} → ¬ IsComponent t c → PeriodsBelow t weights c → PeriodsBelow t weights (c + 1)
  periods_skip f h = record { each = each_next h.each (λ i. absurd (f i)) }

  pub periods_next : {c : ℕ} → HasPeriod (graph_in t (λ p. get_or weights p 0) c) → PeriodsBelow t weights c → PeriodsBelow t weights (c + 1)
  periods_next p h = record { each = each_next h.each (λ i. p) }

  -- a least period is one
  pub has_period_lem : {c : ℕ} {a_b : Fraction} {starts : List ℕ} → PeriodIn t weights c a_b starts → HasPeriod (graph_in t (λ p. get_or weights p 0) c)
  has_period_lem {a_b = a_b} h = record {
    a = a_b.num;
    b = a_b.den;
    possible = record {
      above_zero = h.period.above_zero;
      over = h.period.over;
      rates = h.period.serves.rates;
      start = _;
      meets = h.least.meets;
    };
  }

  -- a floor and a block of component c, where every one below has a period
  pub no_period : {c : ℕ} {floor : Floor} {block : Cycle} {numbers : List ℕ} → IsComponent t c → PeriodsBelow t weights c → BlockIn t weights c floor block numbers
      → NoPeriod t (floor_of numbers floor) (connections_of numbers block)
  no_period {c} i h k = record {
    w = λ p. get_or weights p 0;
    weights = small_weights;
    c = c;
    component = i;
    is_blocked = k.is_blocked;
    lower = h.each;
  }

  pub no_least_period : PeriodsBelow t weights (port_count t) → SomeNoLeast t weights → NoLeastPeriod t
  no_least_period h s = record {
    w = λ p. get_or weights p 0;
    weights = small_weights;
    component = λ p. get_or labels p 0;
    components = l.components.each;
    periods = λ d i. h.each d i i.a_port.below;
    c = s.c;
    is_component = s.component;
    no_least_lem = s.no_least_lem;
  }

  -- ---- every component has its period
  module _ {kept : List Kept} (h : TimedBelow t weights kept (port_count t)) where
    timed_at : (p : ℕ) → IsPort t p → TimedIn t weights kept (get_or labels p 0)
    timed_at p i =
        let c = names_component l.well_formed i (l.components.each p i) in
        h.each (get_or labels p 0) c c.a_port.below

    own_port : (p : ℕ) → IsPort t p → PortIn t (get_or labels p 0) p
    own_port p i = record { a_port = i; component = l.components.each p i }

    own_component : (p : ℕ) (i : IsPort t p) → component_at kept p ≡ get_or labels p 0
    own_component p i = (timed_at p i).component_is p (own_port p i)

    pub timed_numbers : TableNumbers t weights kept
    timed_numbers = record {
      well_formed = l.well_formed;
      long = h.long;
      each = λ p i.
          let at = timed_at p i in
          let a = at.a_is p (own_port p i) in
          let b = at.b_is p (own_port p i) in
          record {
            low = omega (arith, i.below, l.well_formed.few_ports);
            weight_some = l.weighed.are.proportional.positive p i;
            weight_most = l.weighed.small p i;
            a_some = omega (arith, a, at.period.above_zero);
            a_most = omega (arith, a, at.small.num);
            b_some = omega (arith, b, at.period.over);
            b_most = omega (arith, b, at.small.den);
            lowest = rw (a, b) at.period.lowest;
            start_most = at.small_starts p (own_port p i);
          };
    }

    pub timed_consistent : ((k : ℕ) → IsBuffer t k → Size t (timing_of t weights kept) k ((timing_of t weights kept).size k))
        → Consistent t (timing_of t weights kept)
    timed_consistent sizes = record {
      components = λ p i. rw (own_component p i) (l.components.each p i);
      weights = small_weights;
      periods = λ p i. let at = timed_at p i in rw (own_component p i, at.a_is p (own_port p i), above p i) at.period;
      starts = λ p i. let at = timed_at p i in rw (own_component p i, at.a_is p (own_port p i), above p i) at.least;
      sizes = sizes;
    }
      where
        above : (p : ℕ) (i : IsPort t p) → max 1 (b_at kept p) ≡ (timed_at p i).b
        above p i = let at = timed_at p i in omega (arith, at.b_is p (own_port p i), at.period.over)

    pub timed_fields : ((k : ℕ) → IsBuffer t k → (timing_of t weights kept).size k < 2 ^ 64) → FieldsFit t (timing_of t weights kept)
    timed_fields sizes = record {
      component = λ p i.
          let c = names_component l.well_formed i (l.components.each p i) in
          omega (arith, own_component p i, c.a_port.below, l.well_formed.few_ports);
      weight = λ p i. omega (arith, (timed_numbers.each p i).weight_most);
      a = λ p i. omega (arith, (timed_numbers.each p i).a_most);
      b = λ p i. omega (arith, (timed_numbers.each p i).b_most);
      start = λ p i. omega (arith, (timed_numbers.each p i).start_most);
      size = sizes;
    }
