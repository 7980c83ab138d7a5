-- Number 17: a period for each component is a solution, and none is the least where a component has no least period.
use Rattle.std.specs.Prelude.{ℕ, ◌*◌, ◌<◌, ◌≡◌}
use Rattle.std.proofs.Math.Path.{ap}
use Rattle.std.proofs.Math.Decide.{ℕ_discrete, dec_lt}
use Rattle.std.proofs.Math.Nat.{mul-pos, mul-le-mul_right, mul-lt-mul_of_pos_right}
use Rattle.std.proofs.Common.{arith}
use Rattle.numbers.specs.Rationals.{Rational, ◌≼◌, ◌≺◌, ◌≈◌, ◌⊕◌, ◌·◌, share, ratio}
use Rattle.numbers.specs.RationalLaws.{≼_trans, ≈-≼, ≈_refl, ≺-≼_trans}
use Rattle.specification.specs.Periods.{gain, loss, Possible, HasPeriod, PortIn, ConnectionIn, graph_in}
use Rattle.table.specs.WellFormed.{WellFormed}
use Rattle.specification.specs.Table.{Table, port_count, IsPort, IsLink, from, to, num, den}
use Rattle.specification.specs.Ratios.{Component, IsComponent, Proportional, AllWhole}
use Rattle.ways.specs.WayLaws.{component_unique, joined_component, linked}
use Rattle.specification.specs.Answers.{NoLeastPeriod}
use Rattle.specification.specs.Solutions.{Solution, SmallerAt, NoLeastSolution}
use Rattle.demands.specs.ConstraintLaws.{from_port, to_port, from_in, to_in, names_component}
use Rattle.demands.specs.SolutionLaws.{PeriodsOver, edge_cost, solution_serves}

module _ {t : Table} {component : ℕ → ℕ} (formed : WellFormed t) (components : (p : ℕ) → IsPort t p → Component t p (component p)) where
  same_component : (k : ℕ) → IsLink t k → component (to t k) ≡ component (from t k)
  same_component k l =
      component_unique (components (to t k) (to_port formed k l)) (joined_component (linked l) (components (from t k) (from_port formed k l)))

  in_own : {c p : ℕ} → PortIn t c p → component p ≡ c
  in_own {p = p} m = component_unique (components p m.a_port) m.component

  named_own : {c : ℕ} → IsComponent t c → component c ≡ c
  named_own {c} i = in_own (record { a_port = i.a_port; component = i.lowest })

  -- ---- a period for every number, so that the ports of one component share it whatever shows that the number names theirs
  -- a number that names no component has no port and no connection
  not_named : (w : ℕ → ℕ) {c : ℕ} → ¬ IsComponent t c → HasPeriod (graph_in t w c)
  not_named w {c} f = record {
    a = 1;
    b = 1;
    possible = record {
      above_zero = omega arith;
      over = omega arith;
      rates = λ p m. absurd (f (names_component formed m.a_port m.component));
      start = λ p. 0;
      meets = record { holds = λ k e. absurd (f (names_component formed (from_port formed k e.connection.a_link) e.component)) };
    };
  }

  -- decided by the components that are given
  every_number : (w : ℕ → ℕ) → ((c : ℕ) → IsComponent t c → HasPeriod (graph_in t w c)) → (c : ℕ) → HasPeriod (graph_in t w c)
  every_number w each c = below (dec_lt c (port_count t))
    where
      named : IsPort t c → Dec (component c ≡ c) → HasPeriod (graph_in t w c)
      named i (yes e) = each c (record { a_port = i; lowest = rw e at (components c i) })
      named i (no f) = not_named w (λ k. f (named_own k))

      below : Dec (c < port_count t) → HasPeriod (graph_in t w c)
      below (yes h) = named (record { below = h }) (ℕ_discrete (component c) c)
      below (no f) = not_named w (λ k. f k.a_port.below)

  -- ---- the periods and starts of all components together
  module _ {w : ℕ → ℕ} (prop : Proportional t w) (whole : AllWhole t w) (periods : (c : ℕ) → HasPeriod (graph_in t w c)) where
    possible_at : (c : ℕ) → Possible (graph_in t w c) (periods c).a (periods c).b
    possible_at c = (periods c).possible

    period_at : ℕ → ℕ → Rational
    period_at c p = share (w p * (periods c).a) (periods c).b (possible_at c).over

    start_at_lem : ℕ → ℕ → Rational
    start_at_lem c p = share ((possible_at c).start p) (periods c).b (possible_at c).over

    abbrev own_period : ℕ → Rational
    own_period p = period_at (component p) p

    abbrev own_start : ℕ → Rational
    own_start p = start_at_lem (component p) p

    ratio_in : (c k : ℕ) → IsLink t k → num t k · period_at c (to t k) ≈ den t k · period_at c (from t k)
    unfolding period_at
    ratio_in c k l = omega (arith, ap (λ (x : ℕ). x * (periods c).a * (periods c).b) (prop.fits k l))

    periods_over : (c : ℕ) → PeriodsOver t w c own_period (periods c).a (periods c).b (possible_at c).over
    unfolding period_at
    periods_over c = record { is = λ q m. rw (in_own m) (≈_refl _) }

    starts_meet : (c k : ℕ) → ConnectionIn t c k
        → own_start (from t k)
        ⊕ ratio (gain (graph_in t w c) (periods c).a (periods c).b k) (loss (graph_in t w c) (periods c).a (periods c).b k)
        (periods c).b (possible_at c).over
        ≼ own_start (to t k)
    unfolding start_at_lem
    starts_meet c k e =
        rw (in_own (from_in formed e), in_own (to_in formed e))
        (omega (arith, mul-le-mul_right ((periods c).b * (periods c).b) ((possible_at c).meets.holds k e)))

    periods_solution : Solution t
    unfolding period_at
    periods_solution = record {
      period = own_period;
      start = own_start;
      meets = record {
        above_zero = λ p i. omega (arith, mul-pos (prop.positive p i) (possible_at (component p)).above_zero);
        ratios = record { holds = λ k l. rw (same_component k l) (ratio_in (component (from t k)) k l) };
        starts = record {
          holds = λ k l some.
              let c = component (from t k) in
              let e : ConnectionIn t c k = record { connection = l; component = components (from t k) (from_port formed k l.a_link) } in
              ≼_trans (≈-≼ (edge_cost formed whole (periods_over c) own_start k some e)) (starts_meet c k e);
        };
        rates = record {
          holds = λ p i. omega (arith, (possible_at (component p)).rates p (record { a_port = i; component = components p i }));
        };
      };
    }

    -- a smaller a/b of its component is a smaller period of a port
    solution_less : {p : ℕ} (a b : ℕ) (over : 0 < b) → IsPort t p → (periods (component p)).a * b < a * (periods (component p)).b
        → periods_solution.period p ≺ share (w p * a) b over
    unfolding periods_solution period_at
    solution_less {p} a b over i less = record { holds = omega (arith, mul-lt-mul_of_pos_right less (prop.positive p i)) }

-- ---- one component's period replaced
module _ {t : Table} (w : ℕ → ℕ) {c x y : ℕ} (h : Possible (graph_in t w c) x y) (periods : (d : ℕ) → HasPeriod (graph_in t w d)) where
  replaced : (d : ℕ) → Dec (d ≡ c) → HasPeriod (graph_in t w d)
  replaced d (yes e) = record { a = x; b = y; possible = rw e h }
  replaced d (no f) = periods d

  replaced_less : (a b d : ℕ) (same : Dec (d ≡ c)) → d ≡ c → x * b < a * y → (replaced d same).a * b < a * (replaced d same).b
  unfolding replaced
  replaced_less a b d (yes e) own less = less
  replaced_less a b d (no f) own less = absurd (f own)

-- ---- demand 2 at 17
module _ {t : Table} (formed : WellFormed t) (n : NoLeastPeriod t) where
  prop_of : Proportional t n.w
  prop_of = n.weights.weights.proportional

  whole_of : AllWhole t n.w
  whole_of = n.weights.weights.whole

  periods_of : (d : ℕ) → HasPeriod (graph_in t n.w d)
  periods_of = every_number formed n.components n.w n.periods

  pub no_least_solved : Solution t
  no_least_solved = periods_solution formed n.components prop_of whole_of periods_of

  smaller_solution : (s : Solution t) → SmallerAt t n.c s
  smaller_solution s =
      let i = n.is_component in
      let v = solution_serves formed s prop_of whole_of i in
      let m = n.no_least_lem.smaller v.a v.b v.above_zero v.over v.serves in
      let periods : (d : ℕ) → HasPeriod (graph_in t n.w d) = λ d. replaced n.w m.possible periods_of d (ℕ_discrete d n.c) in
      let own = named_own formed n.components i in
      let less = replaced_less n.w m.possible periods_of v.a v.b (n.component n.c) (ℕ_discrete (n.component n.c) n.c) own m.less in
      record {
        other = periods_solution formed n.components prop_of whole_of periods;
        less = ≺-≼_trans (solution_less formed n.components prop_of whole_of periods v.a v.b v.over i.a_port less)
            (≈-≼ (v.periods.is n.c (record { a_port = i.a_port; component = i.lowest })));
      }

  pub no_least_solution : NoLeastSolution t
  no_least_solution = record { p = n.c; a_port = n.is_component.a_port; smaller = smaller_solution }
