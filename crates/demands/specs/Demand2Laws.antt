-- Demand 2: a right answer has number 0 or 17 exactly when a solution exists; at 0 its periods and starts are the least, at 17 none are.
use Rattle.std.specs.Prelude.{ℕ, suc, ◌+◌, ◌*◌, ◌-◌, ◌/◌, ◌≤◌, ◌<◌, ◌≡◌, refl, ◌≢◌, ◌↔◌, List}
use Rattle.std.proofs.Common.{ap, inl, inr, ⊎_elim, div-mul-le_self, mul-pos, mul-le-mul_right, mul-lt-mul_of_pos_right, lt_of_mul-lt-mul_right, le_of_mul-le-mul_right, arith}
use Rattle.std.proofs.Math.Nat.{lt-mul-div-succ}
use Rattle.numbers.specs.Rationals.{Rational, ◌≼◌, ◌⊕◌, whole, share, ratio}
use Rattle.numbers.specs.RationalLaws.{≼_trans, ≈-≼, ≈_sym, ⊕_right_≼, as_share}
use Rattle.specification.specs.Periods.{Graph, gain, loss, Meets, Serves, PortIn, ConnectionIn, graph_in}
use Rattle.table.specs.WellFormed.{WellFormed}
use Rattle.specification.specs.Table.{Table, IsPort, IsLink, from, to, den, IsBuffer}
use Rattle.specification.specs.Ratios.{Joined, Component, Proportional, AllWhole}
use Rattle.ways.specs.WayLaws.{joined_sym, joined_trans, linked}
use Rattle.ways.specs.WeightLaws.{disagreeing as not_agreeing}
use Rattle.period.specs.Limits.{limit_below, rate_below, blocked as blocked_serves, blocked_above_zero, period_least}
use Rattle.specification.specs.Answers.{
  Timing,
  period_of,
  start_of,
  Floor,
  rate,
  cycle,
  zero_floor,
  Answer,
  refused,
  disagreeing,
  overweight,
  blocked,
  no_least,
  consistent,
  number,
  Blocked,
  NoPeriod,
  Enough,
  Consistent,
  Right,
}
use Rattle.specification.specs.Solutions.{Ratios, Starts, IsSolution, Solution, EventsEnough, FewestEvents, LeastSolution}
use Rattle.demands.specs.Demands.{Demand2}
use Rattle.demands.specs.ConstraintLaws.{from_port, to_port, from_in, to_in, names_component}
use Rattle.demands.specs.SamePeriod.{SamePeriod, same_period}
use Rattle.demands.specs.NoLeastLaws.{no_least_solved, no_least_solution}
use Rattle.demands.specs.SolutionLaws.{PeriodsOver, edge_cost, starts_over, solution_agree, solution_serves}

-- ports of one component are joined
joined_both : {t : Table} {p q c : ℕ} → Component t p c → Component t q c → Joined t p q
joined_both h k = joined_trans h.joined (joined_sym k.joined)

-- ---- rational starts, rounded down to whole numbers over b
rounded_down : ℕ → Rational → ℕ
rounded_down b x = b * (x.plus - x.minus) / x.over

rounded_below : (b : ℕ) (x : Rational) → rounded_down b x * x.over ≤ b * (x.plus - x.minus)
unfolding rounded_down
rounded_below b x = div-mul-le_self (b * (x.plus - x.minus)) x.over

rounded_above : (b : ℕ) (x : Rational) → b * (x.plus - x.minus) < suc (rounded_down b x) * x.over
unfolding rounded_down
rounded_above b x = omega (arith, lt-mul-div-succ (b * (x.plus - x.minus)) x.positive)

-- what is added over b is whole, so rounding keeps the order
rounded_≼ : {x y : Rational} {b : ℕ} (over : 0 < b) (m n : ℕ) → whole 0 ≼ x → whole 0 ≼ y → x ⊕ ratio m n b over ≼ y
    → rounded_down b x + m ≤ rounded_down b y + n
rounded_≼ {x} {y} {b} over m n i j h =
    let x' = as_share x i in
    let y' = as_share y j in
    let h' = ≼_trans (⊕_right_≼ (ratio m n b over) (≈-≼ (≈_sym x'))) (≼_trans h (≈-≼ y')) in
    let less : rounded_down b x + m < suc (rounded_down b y + n) = lt_of_mul-lt-mul_right (x.over * y.over) (omega (
      arith,
      h'.holds,
      mul-le-mul_right y.over (rounded_below b x),
      mul-lt-mul_of_pos_right (rounded_above b y) x.positive,
    )) in
    omega arith

-- ---- no a/b
-- whatever the floor is, a cycle that blocks above it leaves no a/b
blocked_none : {g : Graph} {a b : ℕ} (floor : Floor) (block : List ℕ) → Blocked g floor block → 0 < a → 0 < b → ¬ Serves g a b
blocked_none {a = a} {b = b} (rate p) block h some over = blocked_serves (λ a' b' s o. rate_below h.is_limit s) h.blocks a b over
blocked_none {a = a} {b = b} (cycle path) block h some over = blocked_serves (λ a' b' s o. limit_below h.is_limit s) h.blocks a b over
blocked_none zero_floor block h some over = blocked_above_zero h.blocks some over

module _ {t : Table} (formed : WellFormed t) where
  module _ {r : Timing} (h : Consistent t r) where
    prop : Proportional t r.weight
    prop = h.weights.weights.proportional

    all_whole : AllWhole t r.weight
    all_whole = h.weights.weights.whole

    period_below : {p a b : ℕ} → IsPort t p → Serves (graph_in t r.weight (r.component p)) a b → r.a p * b ≤ a * r.b p
    period_below {p} i s = period_least (h.periods p i) s

    own_component : (p : ℕ) → IsPort t p → PortIn t (r.component p) p
    own_component p i = record { a_port = i; component = h.components p i }

    same_in : {p q : ℕ} → IsPort t p → PortIn t (r.component p) q → SamePeriod r p q
    same_in {p} i m = same_period h i m.a_port (joined_both (h.components p i) m.component)

    -- the returned periods of p's component, over p's b
    periods_over : (p : ℕ) → IsPort t p → PeriodsOver t r.weight (r.component p) (period_of r) (r.a p) (r.b p) (r.over p)
    periods_over p i = record {
      is = λ q m. let s = same_in i m in omega (
        arith,
        ap (λ (x : ℕ). r.weight q * x * r.b q) s.a,
        ap (λ (x : ℕ). r.weight q * r.a q * x) s.b,
      );
    }

    -- ---- they are a solution
    starts_meet : (k : ℕ) → IsPort t (from t k) → ConnectionIn t (r.component (from t k)) k
        → start_of r (from t k) ⊕ ratio
        (gain (graph_in t r.weight (r.component (from t k))) (r.a (from t k)) (r.b (from t k)) k)
        (loss (graph_in t r.weight (r.component (from t k))) (r.a (from t k)) (r.b (from t k)) k)
        (r.b (from t k)) (r.over (from t k))
        ≼ start_of r (to t k)
    starts_meet k i e = omega (
      arith,
      mul-le-mul_right (r.b (from t k) * r.b (to t k)) ((h.starts (from t k) i).meets.holds k e),
      ap (λ (x : ℕ). r.start (to t k) * r.b (from t k) * x) (same_in i (to_in formed e)).b,
    )

    timing_ratios : Ratios t (period_of r)
    timing_ratios = record {
      holds = λ k l. let s = same_period h (from_port formed k l) (to_port formed k l) (linked l) in omega (
        arith,
        ap (λ (x : ℕ). x * r.a (to t k) * r.b (from t k)) (prop.fits k l),
        ap (λ (x : ℕ). den t k * r.weight (from t k) * x * r.b (to t k)) s.a,
        ap (λ (x : ℕ). den t k * r.weight (from t k) * r.a (to t k) * x) s.b,
      );
    }

    timing_solution : IsSolution t (period_of r) (start_of r)
    timing_solution = record {
      above_zero = λ p i. omega (arith, mul-pos (prop.positive p i) (h.periods p i).above_zero);
      ratios = timing_ratios;
      starts = record {
        holds = λ k l some.
            let i = from_port formed k l.a_link in
            let e : ConnectionIn t (r.component (from t k)) k = record { connection = l; component = h.components (from t k) i } in
            ≼_trans (≈-≼ (edge_cost formed all_whole (periods_over (from t k) i) (start_of r) k some e)) (starts_meet k i e);
      };
      rates = record {
        holds = λ p i. omega (arith, (h.periods p i).serves.rates p (own_component p i));
      };
    }

    -- ---- of least periods
    timing_periods : (s : Solution t) (p : ℕ) → IsPort t p → period_of r p ≼ s.period p
    timing_periods s p i =
        let v = solution_serves formed s prop all_whole (names_component formed i (h.components p i)) in
        let less : period_of r p ≼ share (r.weight p * v.a) v.b v.over =
        omega (arith, mul-le-mul_right (r.weight p) (period_below i v.serves)) in
        ≼_trans less (≈-≼ (v.periods.is p (own_component p i)))

    -- ---- and least starts
    module _ (T : ℕ → Rational) (not_below : (p : ℕ) → IsPort t p → whole 0 ≼ T p) (starts : Starts t (period_of r) T) where
      rounded_meets : (p : ℕ) → IsPort t p
          → Meets (graph_in t r.weight (r.component p)) (r.a p) (r.b p) (λ q. rounded_down (r.b p) (T q))
      rounded_meets p i = record {
        holds = λ k e.
            rounded_≼ (r.over p) _ _ (not_below (from t k) (from_in formed e).a_port) (not_below (to t k) (to_in formed e).a_port)
            ((starts_over formed all_whole (periods_over p i) starts).holds k e);
      }

      timing_starts : (p : ℕ) → IsPort t p → start_of r p ≼ T p
      timing_starts p i =
          let low = (h.starts p i).least (λ q. rounded_down (r.b p) (T q)) (rounded_meets p i) p (own_component p i) in
          let less : start_of r p ≼ share ((T p).plus - (T p).minus) (T p).over (T p).positive =
          omega (arith, mul-le-mul_right (T p).over low, rounded_below (r.b p) (T p)) in
          ≼_trans less (≈-≼ (≈_sym (as_share (T p) (not_below p i))))

    -- ---- and fewest events
    -- the rule over one denominator, which sender and receiver share
    enough_is : (k d : ℕ) → IsLink t k → Enough t r k d ↔ EventsEnough t (period_of r) (start_of r) k d
    enough_is k d l =
        let b = (same_period h (from_port formed k l) (to_port formed k l) (linked l)).b in (
          λ e. record { holds = record { holds = rw (← b) (omega (arith, mul-le-mul_right (r.b (from t k) * r.b (from t k)) e.holds)) } },
          λ e. record {
            holds =
                le_of_mul-le-mul_right {k = r.b (from t k) * r.b (from t k)} (omega (arith, rw (← b) at e.holds.holds))
                (mul-pos (r.over (from t k)) (r.over (from t k)));
          },
        )

    timing_sizes : (k : ℕ) → IsBuffer t k → FewestEvents t (period_of r) (start_of r) k (r.size k)
    timing_sizes k i = record {
      enough = (enough_is k (r.size k) i.a_link).0 (h.sizes k i).enough;
      fewest = λ e f. (h.sizes k i).fewest e ((enough_is k e i.a_link).1 f);
    }

    timing_least : LeastSolution t r
    timing_least = record {
      solution = timing_solution;
      least_periods = timing_periods;
      least_starts = timing_starts;
      fewest_events_lem = timing_sizes;
    }

  -- ---- no solution
  pub none_blocked : {floor : Floor} {block : List ℕ} → NoPeriod t floor block → ¬ Solution t
  none_blocked {floor} {block} n s =
      let v = solution_serves formed s n.weights.weights.proportional n.weights.weights.whole n.component in
      blocked_none floor block n.is_blocked v.above_zero v.over v.serves

-- an answer of another number than 0 and 17, where no solution exists or the number is 14
other_number : {t : Table} {x : Answer} → number x ≢ 0 → number x ≢ 17 → (Solution t → number x ≢ 14 → ⊥) → Demand2 t x
other_number {t} {x} f g none = record {
  solved = λ e. absurd (⊎_elim (λ (z : number x ≡ 0). f z) (λ (z : number x ≡ 17). g z) e);
  only = λ s e. absurd (none s e);
  least = λ r e. absurd (f (ap number e));
  no_least_lem = λ e. absurd (g e);
}

pub demand_2 : {t : Table} {x : Answer} → WellFormed t → Right t x → Demand2 t x
demand_2 {x = refused n} formed h = absurd h
demand_2 {x = disagreeing loop} formed h =
    other_number (λ e. omega (arith, e)) (λ e. omega (arith, e)) (λ s e. not_agreeing h.way h.unequal (solution_agree formed s))
demand_2 {x = overweight} formed h = other_number (λ e. omega (arith, e)) (λ e. omega (arith, e)) (λ s e. e refl)
demand_2 {x = blocked floor block} formed h =
    other_number (λ e. omega (arith, e)) (λ e. omega (arith, e)) (λ s e. none_blocked formed h s)
demand_2 {x = no_least} formed h = record {
  solved = λ e. no_least_solved formed h;
  only = λ s e. inr refl;
  least = λ r e. absurd (omega (arith, ap number e));
  no_least_lem = λ e. no_least_solution formed h;
}
demand_2 {x = consistent r} formed h = record {
  solved = λ e. record { period = period_of r; start = start_of r; meets = timing_solution formed h };
  only = λ s e. inl refl;
  least = λ r' e. let same : r ≡ r' = cc in rw same at (timing_least formed h);
  no_least_lem = λ e. absurd (omega (arith, e));
}
