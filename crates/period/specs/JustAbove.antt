-- Just above zero: a cycle that is not positive there is not positive below either, and one that is, with D zero or more, is positive at
-- every period. So a component without a rate that is served there has periods but no least.
use Rattle.std.specs.Prelude.{ℕ, suc, ◌+◌, ◌*◌, ◌≤◌, ◌<◌, ◌≡◌, ◌↔◌, List, length}
use Rattle.std.proofs.Common.{⊎_elim, arith, mul-le-mul_left, mul-le-mul_right, mul-lt-mul_of_pos_right}
use Rattle.numbers.specs.Lists.{sum}
use Rattle.numbers.specs.ListLaws.{lt_or_le, sum_linear}
use Rattle.specification.specs.Periods.{Graph, gain, loss, Cycle, Serves, ZeroFloor, BlocksAboveZero, Possible, NoLeast}
use Rattle.rounds.specs.Walks.{Among, cycle_bound, closed_has_cycle}
use Rattle.period.specs.Component.{SmallEdges, most_amount, just_above, graph_of, Component}
use Rattle.period.specs.Limits.{E⁺, E⁻, D⁺, D⁻}
use Rattle.period.specs.PricesLaws.{serves_starts}

-- ---- over E and D of a cycle
level_below : (e⁺ e⁻ d⁺ d⁻ x y : ℕ) → d⁺ < just_above → d⁻ < just_above → e⁺ * just_above + d⁺ * 1 ≤ e⁻ * just_above + d⁻ * 1 → x * just_above ≤ y
    → e⁺ * y + d⁺ * x ≤ e⁻ * y + d⁻ * x
level_below e⁺ e⁻ d⁺ d⁻ x y p q h l = ⊎_elim
    (λ (m : e⁺ < e⁻). omega (arith, mul-le-mul_right y m, mul-le-mul_right x p))
    (λ (m : e⁻ ≤ e⁺).
    let same : e⁺ ≡ e⁻ = omega (arith, mul-le-mul_right just_above m) in
    let less : d⁺ ≤ d⁻ = omega arith in
    rw same (omega (arith, mul-le-mul_right x less)))
    (lt_or_le e⁺ e⁻)

-- E is zero or more where D is and the cycle is positive there
ticks_above : (e⁺ e⁻ d⁺ d⁻ : ℕ) → d⁺ < just_above → e⁻ * just_above + d⁻ * 1 < e⁺ * just_above + d⁺ * 1 → e⁻ ≤ e⁺
ticks_above e⁺ e⁻ d⁺ d⁻ p h = ⊎_elim
    (λ (l : e⁺ < e⁻). absurd (omega (arith, mul-le-mul_right just_above l)))
    (λ (l : e⁻ ≤ e⁺). l)
    (lt_or_le e⁺ e⁻)

positive_at : (e⁺ e⁻ d⁺ d⁻ a b : ℕ) → e⁻ ≤ e⁺ → d⁻ ≤ d⁺ → e⁻ + d⁻ < e⁺ + d⁺ → 0 < a → 0 < b → e⁻ * b + d⁻ * a < e⁺ * b + d⁺ * a
positive_at e⁺ e⁻ d⁺ d⁻ a b e d h some over = ⊎_elim
    (λ (l : e⁻ < e⁺). omega (arith, mul-lt-mul_of_pos_right l over, mul-le-mul_right a d))
    (λ (l : e⁺ ≤ e⁻).
    let less : d⁻ < d⁺ = omega arith in
    omega (arith, mul-le-mul_right b e, mul-lt-mul_of_pos_right less some))
    (lt_or_le e⁻ e⁺)

-- E and D of a path are zero or more, and not both are zero
pub record Rising (g : Graph) (path : List ℕ) : Type 0 where
  pub ticks : E⁻ g path ≤ E⁺ g path
  pub events : D⁻ g path ≤ D⁺ g path
  pub not_both : E⁻ g path + D⁻ g path < E⁺ g path + D⁺ g path

-- such cycles, and no others, block every period above zero
pub above_zero_is : {g : Graph} {path : List ℕ} → Cycle g path → BlocksAboveZero g path ↔ Rising g path
above_zero_is {g} {path} c = (
  λ k.
      let steep = k.positive 1 (suc (D⁺ g path)) (omega arith) (omega arith) in
      let even = k.positive 1 1 (omega arith) (omega arith) in
      record {
        ticks = ⊎_elim
            (λ (l : E⁺ g path < E⁻ g path). absurd (omega (
              arith,
              steep,
              sum_linear g.E⁺ g.D⁺ (suc (D⁺ g path)) 1 path,
              sum_linear g.E⁻ g.D⁻ (suc (D⁺ g path)) 1 path,
              mul-le-mul_right (suc (D⁺ g path)) l,
            )))
            (λ (l : E⁻ g path ≤ E⁺ g path). l)
            (lt_or_le (E⁺ g path) (E⁻ g path));
        events = k.rising;
        not_both = omega (arith, even, sum_linear g.E⁺ g.D⁺ 1 1 path, sum_linear g.E⁻ g.D⁻ 1 1 path);
      },
  λ r. record {
    cycle = c;
    rising = r.events;
    positive = λ a b some over. omega (
      arith,
      sum_linear g.E⁺ g.D⁺ b a path,
      sum_linear g.E⁻ g.D⁻ b a path,
      positive_at (E⁺ g path) (E⁻ g path) (D⁺ g path) (D⁻ g path) a b r.ticks r.events r.not_both some over,
    );
  },
)

-- ---- over small edges between at most 64 ports
module _ {g : Graph} {ports : List ℕ} (among : Among g ports) (few : length ports ≤ 64) (small : SmallEdges g) where
  sum_most : {path : List ℕ} (part : ℕ → ℕ) → ((k : ℕ) → g.IsEdge k → part k ≤ most_amount) → Cycle g path → sum part path < just_above
  sum_most part h c = omega (arith, cycle_bound among part most_amount h c, mul-le-mul_right most_amount few)

  cycle_below : {path : List ℕ} (x y : ℕ) → Cycle g path → sum (gain g 1 just_above) path ≤ sum (loss g 1 just_above) path → x * just_above ≤ y
      → sum (gain g x y) path ≤ sum (loss g x y) path
  cycle_below {path} x y c h l = omega (
    arith,
    sum_linear g.E⁺ g.D⁺ y x path,
    sum_linear g.E⁻ g.D⁻ y x path,
    level_below (E⁺ g path) (E⁻ g path) (D⁺ g path) (D⁻ g path) x y
        (sum_most g.D⁺ small.events_forward c) (sum_most g.D⁻ small.events_back c)
        (omega (arith, sum_linear g.E⁺ g.D⁺ just_above 1 path, sum_linear g.E⁻ g.D⁻ just_above 1 path)) l,
  )

  -- without a rate: what serves just above zero serves below
  below_serves : ((p : ℕ) → g.IsPort p → g.limit_num p ≡ 0) → Serves g 1 just_above → (x y : ℕ) → x * just_above ≤ y → Serves g x y
  below_serves nums s x y l = record {
    rates = λ p m. rw (nums p m) (omega arith);
    cycles = λ p path w. ⊎_elim
        (λ (gains : sum (loss g x y) path < sum (gain g x y) path).
        let (c, k) = closed_has_cycle (gain g x y) (loss g x y) w gains in
        absurd (omega (arith, k.positive, cycle_below x y k.cycle (s.cycles k.cycle.at c k.cycle.closed) l)))
        (λ (h : sum (gain g x y) path ≤ sum (loss g x y) path). h)
        (lt_or_le (sum (loss g x y) path) (sum (gain g x y) path));
  }

  -- what is positive just above zero, with D zero or more, is positive at every period
  pub rising_above_zero : {path : List ℕ} → Cycle g path → sum (loss g 1 just_above) path < sum (gain g 1 just_above) path → D⁻ g path ≤ D⁺ g path
      → BlocksAboveZero g path
  rising_above_zero {path} c h rises =
      let positive : E⁻ g path * just_above + D⁻ g path * 1 < E⁺ g path * just_above + D⁺ g path * 1 =
      omega (arith, h, sum_linear g.E⁺ g.D⁺ just_above 1 path, sum_linear g.E⁻ g.D⁻ just_above 1 path) in
      let ticks = ticks_above (E⁺ g path) (E⁻ g path) (D⁺ g path) (D⁻ g path) (sum_most g.D⁺ small.events_forward c) positive in
      (above_zero_is c).1 (record { ticks = ticks; events = rises; not_both = omega arith })

-- ---- a component without a rate that is served just above zero
module _ {ports limits edges : List ℕ} (component : Component ports limits edges) (zero : ZeroFloor (graph_of ports limits edges))
    (serves : Serves (graph_of ports limits edges) 1 just_above) where
  below_possible : (x y : ℕ) → 0 < x → 0 < y → x * just_above ≤ y → Possible (graph_of ports limits edges) x y
  below_possible x y some over l =
      let nums : (p : ℕ) → (graph_of ports limits edges).IsPort p → (graph_of ports limits edges).limit_num p ≡ 0 =
      λ p m. component.small_limits.unrated p m (zero.unrated p m) in
      let s = below_serves component.among component.few_ports component.small_edges nums serves x y l in
      record { above_zero = some; over = over; rates = s.rates; start = _; meets = (serves_starts component x y s).meets }

  -- below a/b lies a / (b + a · 640,000,001), which is not above 1 / 640,000,001
  pub no_least_above_zero : NoLeast (graph_of ports limits edges)
  no_least_above_zero = record {
    some = record { a = 1; b = just_above; possible = below_possible 1 just_above (omega arith) (omega arith) (omega arith) };
    smaller = λ a b above_zero over s. record {
      x = a;
      y = b + a * just_above;
      possible = below_possible a (b + a * just_above) above_zero (omega arith) (omega arith);
      less = omega (arith, mul-le-mul_left a above_zero);
    };
  }
