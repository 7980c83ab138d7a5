-- Demand 3's second half: where every ratio is 1 and every δ whole, chains come as late as the period lets them.
use Rattle.std.specs.Prelude.{ℕ, zero, suc, ◌+◌, ◌*◌, ◌-◌, ◌/◌, ◌≤◌, ◌<◌, Bool, true, false, cond, ◌≡◌, refl, List, [], ◌∷◌}
use Rattle.std.proofs.Common.{sym, ap, ◌∙◌, ⊎_elim, lt_of_mul-lt-mul_right, mul-div_cancel, arith}
use Rattle.std.proofs.Math.Nat.{eq_of_mul-eq-mul_right, eq_of_mul-eq-mul_left}
use Rattle.numbers.specs.Divisors.{Divides}
use Rattle.numbers.specs.DivisorLaws.{quotient_is}
use Rattle.numbers.specs.Rationals.{Rational, ◌≼◌, ◌≈◌, ◌⊕◌, ◌·◌, whole, signed, share}
use Rattle.numbers.specs.RationalLaws.{archimedes, ≼-≺_trans, ≺-≼_trans, ≈-≼, ≈_sym, ≈_trans, ≈_refl, ⊕_zero, ⊕-≈, ·-≈, ·-≺}
use Rattle.numbers.specs.Lists.{sum}
use Rattle.numbers.specs.ListLaws.{sum_linear}
use Rattle.specification.specs.Periods.{Graph, Walk, stop, step, RateLimit, CycleLimit, PortIn, ConnectionIn, graph_in}
use Rattle.table.specs.WellFormed.{WellFormed}
use Rattle.specification.specs.Table.{Table, port, IsPort, IsLink, from, to, num, den, ε⁺, ε⁻}
use Rattle.specification.specs.Ratios.{Step, Way, stay, walk, Component, Proportional}
use Rattle.ways.specs.WayLaws.{linked, joined_sym, joined_component}
use Rattle.demands.specs.ConstraintLaws.{from_in, some_over}
use Rattle.demands.specs.WaitLaws.{e⁺, e⁻, waits_whole}
use Rattle.specification.specs.Answers.{Timing, period_of, Consistent}
use Rattle.specification.specs.Solutions.{ε}
use Rattle.specification.specs.Chains.{RatiosOne, EventsWhole, WaitsFor, Chain, first, spacing, connection, Tight}

-- a chain to event k of p whose time is x
record ChainTo (t : Table) (size : ℕ → ℕ) (p k : ℕ) (x : Rational) : Type 0 where
  time : Rational
  chain : Chain t size p k time
  is : time ≈ x

module _ {t : Table} {size : ℕ → ℕ} where
  chain_as : {p k : ℕ} {x y : Rational} → ChainTo t size p k x → x ≈ y → ChainTo t size p k y
  chain_as h e = record { time = h.time; chain = h.chain; is = ≈_trans h.is e }

  -- chains that gain d periods with each d events, as often as asked, are in the end later than any smaller period allows
  rounds_tight : {c at d : ℕ} {x period : Rational} (base : ℕ) → PortIn t c at → 0 < d → x ≈ d · period
      → ((n k : ℕ) → k ≡ base + n * d → ChainTo t size at k (n · x))
      → Tight t size c period
  rounds_tight {at = at} {d = d} base inside some same round = record {
    smaller = λ y less start.
        let (n, late) = archimedes (start at ⊕ base · y) (·-≺ d some less) in
        let last = round n (base + n * d) refl in
        record {
          p = at;
          k = base + n * d;
          time = last.time;
          inside = inside;
          chain = last.chain;
          late = ≺-≼_trans (≼-≺_trans (events (start at) y n) late) (≈-≼ (≈_trans (·-≈ n (≈_sym same)) (≈_sym last.is)));
        };
  }
    where
      events : (x y : Rational) (n : ℕ) → x ⊕ (base + n * d) · y ≼ x ⊕ base · y ⊕ n · (d · y)
      events x y n = omega arith

  -- a chain of n spacings
  spaced : {q : ℕ} → IsPort t q → (some : 0 < (port t q).num) (n k : ℕ) → k ≡ 0 + n * 1
      → ChainTo t size q k (n · share (port t q).den (port t q).num some)
  spaced {q} i some zero k e = record { time = whole 0; chain = first q k i; is = omega arith }
  spaced i some (suc n) zero e = absurd (omega arith)
  spaced {q} i some (suc n) (suc k) e =
      let h = spaced i some n k (omega arith) in
      let limit = share (port t q).den (port t q).num some in
      record { time = h.time ⊕ limit; chain = spacing h.chain some; is = ≈_trans (⊕-≈ h.is (≈_refl limit)) (more n limit) }
    where
      more : (n : ℕ) (x : Rational) → n · x ⊕ x ≈ suc n · x
      more n x = omega arith

-- where d divides n, n times w divided by d is the quotient times w
whole_times : {d n : ℕ} (w : ℕ) → 0 < d → Divides d n → n * w / d ≡ n / d * w
whole_times {d} {n} w some h =
    let q = quotient_is h in
    let q' = quotient_is {a = d} {b = n * w} (record { quotient = n / d * w; is = omega (arith, ap (λ (x : ℕ). x * w) q) }) in
    eq_of_mul-eq-mul_left d some (n * w / d) (n / d * w) (omega (arith, q', ap (λ (x : ℕ). x * w) q))

-- ---- where every ratio of component c is 1
module _ {t : Table} {c : ℕ} (formed : WellFormed t) (ones : RatiosOne t c) where
  module _ {w : ℕ → ℕ} (prop : Proportional t w) where
    link_level : (n : ℕ) → IsLink t n → Component t (from t n) c → w (from t n) ≡ w (to t n)
    link_level n i h =
        eq_of_mul-eq-mul_right (num t n) (formed.links n i.below).num.least (w (from t n)) (w (to t n))
        (omega (arith, prop.fits n i, ap (λ (x : ℕ). w (from t n) * x) (ones.one n i h)))

    step_level : (n : ℕ) (b : Bool) → IsLink t n → Component t (cond b (to t n) (from t n)) c
        → w (cond b (to t n) (from t n)) ≡ w (cond b (from t n) (to t n))
    step_level n true i h = sym (link_level n i (joined_component (joined_sym (linked i)) h))
    step_level n false i h = link_level n i h

    way_level : {p q : ℕ} {path : List Step} → Way t p q path → Component t p c → w p ≡ w q
    way_level stay h = refl
    way_level (walk s i v) h =
        step_level s.number s.against i h ∙ way_level v (joined_component (record { path = s ∷ []; way = walk s i stay }) h)

    -- all weights of the component are equal
    level : {p : ℕ} → Component t p c → w p ≡ w c
    level h = way_level h.joined.way h

  module _ (w : ℕ → ℕ) (wholes : EventsWhole t c) where
    -- a connection of whole δ waits for the event so many later or earlier
    whole_waits : (n k m : ℕ) → ConnectionIn t c n → m + e⁻ t n ≡ k + e⁺ t n → WaitsFor t n k m
    whole_waits n k m i e =
        let some = (formed.links n i.connection.a_link.below).num.least in
        let exact : k * den t n / num t n ≡ k = rw (← ones.one n i.connection.a_link i.component) (mul-div_cancel k some) in
        (waits_whole t n k m some (some_over formed n i.connection.a_link) (wholes.forward n i) (wholes.back n i)).1 (rw exact e)

    -- a chain to event m goes on along a walk, which adds its δ to the event and its ε to the time
    walk_chain : {size : ℕ → ℕ} {p q : ℕ} {path : List ℕ} {x : Rational} (m k : ℕ) → Walk (graph_in t w c) p q path → sum (e⁺ t) path ≤ m
        → k + sum (e⁺ t) path ≡ m + sum (e⁻ t) path
        → ChainTo t size p m x
        → ChainTo t size q k (x ⊕ signed (sum (ε⁺ t) path) (sum (ε⁻ t) path))
    walk_chain {x = x} m k stop far e h =
        let same : k ≡ m = omega arith in
        rw same (chain_as h (≈_sym (⊕_zero x)))
    walk_chain {size = size} {x = x} m k (step n i v) far e h =
        let next : ℕ = m + e⁻ t n - e⁺ t n in
        let at_next : ChainTo t size (to t n) next (x ⊕ ε t n) = record {
          time = h.time ⊕ ε t n;
          chain = connection n next i.connection h.chain (whole_waits n next m i (omega arith));
          is = ⊕-≈ h.is (≈_refl (ε t n));
        } in
        chain_as (walk_chain next k v (omega arith) (omega arith) at_next) (omega arith)

    -- n times round a closed walk
    rounds : {size : ℕ → ℕ} {at : ℕ} {path : List ℕ} → IsPort t at → Walk (graph_in t w c) at at path → sum (e⁺ t) path ≤ sum (e⁻ t) path
        → (n k : ℕ) → k ≡ sum (e⁺ t) path + n * (sum (e⁻ t) path - sum (e⁺ t) path)
        → ChainTo t size at k (n · signed (sum (ε⁺ t) path) (sum (ε⁻ t) path))
    rounds {at} i v falls zero k e = record { time = whole 0; chain = first at k i; is = omega arith }
    rounds {path = path} i v falls (suc n) k e =
        let m : ℕ = sum (e⁺ t) path + n * (sum (e⁻ t) path - sum (e⁺ t) path) in
        chain_as (walk_chain m k v (omega arith) (omega arith) (rounds i v falls n m refl)) (omega arith)

-- a walk that is not empty leaves a port of the component
walk_port : {t : Table} {c p q : ℕ} {path : List ℕ} (w f : ℕ → ℕ) → WellFormed t → Walk (graph_in t w c) p q path → 0 < sum f path → PortIn t c p
walk_port w f formed stop h = absurd (omega arith)
walk_port w f formed (step k i v) h = from_in formed i

-- ---- the period of p's component is a limit, which chains come up to
module _ {t : Table} {r : Timing} {p : ℕ} (formed : WellFormed t) (right : Consistent t r) (i : IsPort t p) (ones : RatiosOne t (r.component p))
    (wholes : EventsWhole t (r.component p)) where
  abbrev g : Graph
  g = graph_in t r.weight (r.component p)

  same_weight : {q : ℕ} → Component t q (r.component p) → r.weight q ≡ r.weight p
  same_weight h =
      let prop = right.weights.weights.proportional in
      level formed ones prop h ∙ sym (level formed ones prop (right.components p i))

  rate_tight : {q : ℕ} → RateLimit g q (r.a p) (r.b p) → Tight t r.size (r.component p) (period_of r p)
  rate_tight {q} l =
      let some : 0 < (port t q).num = lt_of_mul-lt-mul_right (r.weight q) (omega (arith, l.rated)) in
      rounds_tight 0 l.a_port (omega arith)
      (record { holds = omega (arith, l.exact, ap (λ (x : ℕ). (port t q).num * x * r.a p) (same_weight l.a_port.component)) })
      (spaced l.a_port.a_port some)

  -- D of a path is δ times the weight
  sum_events : (D f : ℕ → ℕ) {x y : ℕ} {path : List ℕ} → ((k : ℕ) → ConnectionIn t (r.component p) k → D k ≡ f k * r.weight (from t k))
      → Walk g x y path
      → sum D path ≡ sum f path * r.weight p
  sum_events D f is stop = omega arith
  sum_events D f is (step k m v) = omega (arith, sum_events D f is v, is k m, ap (λ (x : ℕ). f k * x) (same_weight m.component))

  forward_is : (k : ℕ) → ConnectionIn t (r.component p) k → g.D⁺ k ≡ e⁺ t k * r.weight (from t k)
  forward_is k m = whole_times (r.weight (from t k)) (some_over formed k m.connection.a_link) (wholes.forward k m)

  back_is : (k : ℕ) → ConnectionIn t (r.component p) k → g.D⁻ k ≡ e⁻ t k * r.weight (from t k)
  back_is k m = whole_times (r.weight (from t k)) (some_over formed k m.connection.a_link) (wholes.back k m)

  module _ {path : List ℕ} (l : CycleLimit g path (r.a p) (r.b p)) where
    forward_of_lem : sum g.D⁺ path ≡ sum (e⁺ t) path * r.weight p
    forward_of_lem = sum_events g.D⁺ (e⁺ t) forward_is l.cycle.closed

    back_of_lem : sum g.D⁻ path ≡ sum (e⁻ t) path * r.weight p
    back_of_lem = sum_events g.D⁻ (e⁻ t) back_is l.cycle.closed

    falls : sum (e⁺ t) path < sum (e⁻ t) path
    falls = lt_of_mul-lt-mul_right (r.weight p) (rw (forward_of_lem, back_of_lem) at l.falling)

    cycle_gains : signed (sum (ε⁺ t) path) (sum (ε⁻ t) path) ≈ (sum (e⁻ t) path - sum (e⁺ t) path) · period_of r p
    cycle_gains = record {
      holds = omega (
        arith,
        l.exact,
        sum_linear (ε⁺ t) g.D⁺ (r.b p) (r.a p) path,
        sum_linear (ε⁻ t) g.D⁻ (r.b p) (r.a p) path,
        ap (λ (x : ℕ). x * r.a p) forward_of_lem,
        ap (λ (x : ℕ). x * r.a p) back_of_lem,
        ap (λ (x : ℕ). x * (r.weight p * r.a p)) split,
      );
    }
      where
        split : sum (e⁻ t) path ≡ sum (e⁺ t) path + (sum (e⁻ t) path - sum (e⁺ t) path)
        split = omega (arith, falls)

    cycle_tight : Tight t r.size (r.component p) (period_of r p)
    cycle_tight =
        let inside = walk_port r.weight (e⁻ t) formed l.cycle.closed (omega (arith, falls)) in
        rounds_tight (sum (e⁺ t) path) inside (omega (arith, falls)) cycle_gains
        (rounds formed ones r.weight wholes inside.a_port l.cycle.closed (omega (arith, falls)))

  pub tight_period : Tight t r.size (r.component p) (period_of r p)
  tight_period = ⊎_elim
      (λ (l : (q : ℕ) × RateLimit g q (r.a p) (r.b p)). rate_tight l.1)
      (λ (l : (path : List ℕ) × CycleLimit g path (r.a p) (r.b p)). cycle_tight l.1)
      (right.periods p i).limit
