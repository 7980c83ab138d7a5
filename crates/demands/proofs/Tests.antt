-- Tests that antt computes of a small model, and the right answers that they show.
use Prim.Native.Nat.{ℕ, zero, suc, ◌+◌, ◌*◌, ◌-◌, ◌/◌, ◌≤◌, ◌<◌}
use mathlib.Core.Path.{◌≡◌, refl, ap}
use mathlib.Core.Bool.{Bool, true, false, not}
use mathlib.Core.Logic.{◌⊎◌, inl, inr, ⊎_elim}
use mathlib.Core.List.Memᴰ.{head as here}
use mathlib.Core.List.Memᴰ.{tail as there}
use mathlib.Core.List.{List, [], ◌∷◌}
use native.Mathlib.Nat.{eq-or-lt_of_le, le_of_suc-le-suc, mul-pos, mul-le-mul_right, le_of_mul-le-mul_right, lt_of_mul-lt-mul_right}
use native.Mathlib.Omega.{arith}
use lib.Dec.{T, T_not, eqb, leb, ltb, eqb→eq, eqb_refl, nleb→lt, lit<, lit≤}
use lib.ListN.{get_or}
use Rattle.numbers.specs.DivisorLaws.{divides_times, divides_rest, divides_one, divides_≤}
use Rattle.numbers.specs.Divisors.{Coprime}
use Rattle.exponents.specs.Tests.{both, both_left, both_right, either, either_cases}
use Rattle.numbers.specs.Lists.{◌∈◌, sum, Distinct, none, more}
use Rattle.specification.specs.Periods.{
  Graph,
  Walk,
  stop,
  step,
  reached,
  gain,
  loss,
  Meets,
  LeastStarts,
  Cycle,
  RateLimit,
  CycleLimit,
  Blocks,
  BlocksAboveZero,
  Period,
  Possible,
  NoLeast,
  ConnectionIn,
  graph_in,
}
use Rattle.specification.specs.Table.{
  most_ports,
  most_links,
  most_part,
  most_ticks,
  most_events,
  most_over,
  Table,
  port_count,
  link_count,
  port,
  link,
  is_buffer,
  IsPort,
  IsLink,
  from,
  to,
  num,
  den,
  IsConnection,
  IsBuffer,
  ε⁺,
  ε⁻,
  δ⁻,
  δ°,
}
use Rattle.table.specs.WellFormed.{PartFits, PortFits, LinkFits, WellFormed}
use Rattle.specification.specs.declared.Port.{Port}
use Rattle.specification.specs.declared.Link.{Link}
use Rattle.specification.specs.Ratios.{Joined, Component, IsComponent, Proportional, weighed⁺, weighed⁻, AllWhole, WholeWeights, Overweight, most_weight, SmallWeights}
use Rattle.ways.specs.WayLaws.{joined_refl, joined_sym, joined_trans, linked, component_unique}
use Rattle.ways.specs.WeightLaws.{joined_proportion}
use Rattle.period.specs.JustAbove.{above_zero_is}
use Rattle.period.specs.Limits.{serves_meets}
use Rattle.specification.specs.Answers.{Timing, Floor, rate, cycle, zero_floor, Blocked, NoPeriod, NoLeastPeriod, Size, Consistent}

-- ---- all tests of a list, and one test at each number below another
abbrev all : List Bool → Bool
all [] = true
all (b ∷ bs) = both b (all bs)

passed : (bs : List Bool) → T (all bs) → (i : ℕ) → T (get_or bs i true)
passed [] h i = tt
passed (b ∷ bs) h zero = both_left b (all bs) h
passed (b ∷ bs) h (suc i) = passed bs (both_right b (all bs) h) i

abbrev below : (ℕ → Bool) → ℕ → Bool
below f zero = true
below f (suc n) = both (f n) (below f n)

at : (f : ℕ → Bool) (n : ℕ) → T (below f n) → (k : ℕ) → k < n → T (f k)
at f zero h k l = absurd (omega arith)
at f (suc n) h k l =
    ⊎_elim (λ e. rw e (both_left (f n) (below f n) h)) (λ m. at f n (both_right (f n) (below f n) h) k m)
    (eq-or-lt_of_le (le_of_suc-le-suc l))

equal : {m n : ℕ} → T (eqb m n) → m ≡ n
equal {m} {n} h = eqb→eq m n h

is_false : (b : Bool) → T (not b) → b ≡ false
is_false true h = absurd h
is_false false h = refl

-- ---- lists without repetition
abbrev absent : ℕ → List ℕ → Bool
absent x [] = true
absent x (y ∷ ys) = both (not (eqb x y)) (absent x ys)

abbrev distinct : List ℕ → Bool
distinct [] = true
distinct (x ∷ xs) = both (absent x xs) (distinct xs)

not_in : (x : ℕ) (ys : List ℕ) → T (absent x ys) → ¬ (x ∈ ys)
not_in x [] h m = elim m [ ]
not_in x (y ∷ ys) h (here e) = T_not (eqb x y) (both_left (not (eqb x y)) (absent x ys) h) (rw e (eqb_refl y))
not_in x (y ∷ ys) h (there m) = not_in x ys (both_right (not (eqb x y)) (absent x ys) h) m

pub distinct_is : (xs : List ℕ) → T (distinct xs) → Distinct xs
distinct_is [] h = none
distinct_is (x ∷ xs) h =
    more (not_in x xs (both_left (absent x xs) (distinct xs) h)) (distinct_is xs (both_right (absent x xs) (distinct xs) h))

-- ---- E and D of a connection
-- what is not positive at zero and at a/b is not between
not_positive_below : (e⁺ e⁻ d⁺ d⁻ a b x y : ℕ) → 0 < a → e⁺ ≤ e⁻ → e⁺ * b + d⁺ * a ≤ e⁻ * b + d⁻ * a → x * b ≤ a * y
    → e⁺ * y + d⁺ * x ≤ e⁻ * y + d⁻ * x
not_positive_below e⁺ e⁻ d⁺ d⁻ a b x y some e h l =
    let split : e⁻ ≡ e⁺ + (e⁻ - e⁺) = omega arith in
    le_of_mul-le-mul_right {k = a} (omega (
      arith,
      mul-le-mul_right x h,
      mul-le-mul_right (e⁻ - e⁺) l,
      ap (λ (z : ℕ). z * (x * b)) split,
      ap (λ (z : ℕ). z * (a * y)) split,
    )) some

-- ---- the table is within its limits
abbrev part : ℕ → List Bool
part x = ltb 0 x ∷ leb x most_part ∷ []

part_fits : (x : ℕ) → T (all (part x)) → PartFits x
part_fits x h = record { least = lit< (passed (part x) h 0); most = lit≤ (passed (part x) h 1) }

-- a port has no rate, or one with both parts above zero
abbrev no_rate : Port → List Bool
no_rate p = eqb p.num 0 ∷ eqb p.den 0 ∷ []

abbrev some_rate : Port → List Bool
some_rate p = ltb 0 p.num ∷ ltb 0 p.den ∷ []

abbrev port_tests : Port → List Bool
port_tests p = leb p.num most_part ∷ leb p.den most_part ∷ either (all (no_rate p)) (all (some_rate p)) ∷ []

port_fits : (p : Port) → T (all (port_tests p)) → PortFits p
port_fits p h = ⊎_elim
    (λ (k : T (all (no_rate p))).
    let num : p.num ≡ 0 = equal (passed (no_rate p) k 0) in
    let den : p.den ≡ 0 = equal (passed (no_rate p) k 1) in
    fits (λ some. absurd (omega arith)) (λ zero. den))
    (λ (k : T (all (some_rate p))).
    let num : 0 < p.num = lit< (passed (some_rate p) k 0) in
    let den : 0 < p.den = lit< (passed (some_rate p) k 1) in
    fits (λ some. den) (λ zero. absurd (omega arith)))
    (either_cases (all (no_rate p)) (all (some_rate p)) (passed (port_tests p) h 2))
  where
    fits : (0 < p.num → 0 < p.den) → (p.num ≡ 0 → p.den ≡ 0) → PortFits p
    fits rated unrated = record {
      num_most = lit≤ (passed (port_tests p) h 0);
      den_most = lit≤ (passed (port_tests p) h 1);
      rated = rated;
      unrated = unrated;
    }

abbrev link_tests : ℕ → Link → List Bool
link_tests n l =
    ltb l.from n
    ∷ ltb l.to n
    ∷ all (part l.num)
    ∷ all (part l.den)
    ∷ leb l.ticks.0 most_ticks
    ∷ leb l.ticks.1 most_ticks
    ∷ leb l.events.0 (most_events * l.over)
    ∷ leb l.events.1 (most_events * l.over)
    ∷ ltb 0 l.over
    ∷ leb l.over most_over
    ∷ leb 2 l.kind
    ∷ leb l.kind 4
    ∷ []

link_fits : (n : ℕ) (l : Link) → T (all (link_tests n l)) → LinkFits n l
link_fits n l h = record {
  from = lit< (passed (link_tests n l) h 0);
  to = lit< (passed (link_tests n l) h 1);
  num = part_fits l.num (passed (link_tests n l) h 2);
  den = part_fits l.den (passed (link_tests n l) h 3);
  ticks_forward_lem = lit≤ (passed (link_tests n l) h 4);
  ticks_back_lem = lit≤ (passed (link_tests n l) h 5);
  events_forward = lit≤ (passed (link_tests n l) h 6);
  events_back = lit≤ (passed (link_tests n l) h 7);
  over_least = lit< (passed (link_tests n l) h 8);
  over_most = lit≤ (passed (link_tests n l) h 9);
  kind_least = lit≤ (passed (link_tests n l) h 10);
  kind_most = lit≤ (passed (link_tests n l) h 11);
}

module _ (t : Table) where
  abbrev ports : ℕ
  ports = port_count t

  abbrev links : ℕ
  links = link_count t

  abbrev formed : List Bool
  formed =
      ltb 0 ports
      ∷ leb ports most_ports
      ∷ leb links most_links
      ∷ below (λ p. all (port_tests (port t p))) ports
      ∷ below (λ k. all (link_tests ports (link t k))) links
      ∷ []

  well_formed : T (all formed) → WellFormed t
  well_formed h = record {
    some_port_lem = lit< (passed formed h 0);
    few_ports = lit≤ (passed formed h 1);
    few_links = lit≤ (passed formed h 2);
    ports = λ p l. port_fits (port t p) (at (λ q. all (port_tests (port t q))) ports (passed formed h 3) p l);
    links = λ k l. link_fits ports (link t k) (at (λ j. all (link_tests ports (link t j))) links (passed formed h 4) k l);
  }

  -- ---- one component: link k joins port k to port k + 1, as in every model tested here
  abbrev joins : ℕ → List Bool
  joins k = ltb k links ∷ eqb (from t k) k ∷ eqb (to t k) (suc k) ∷ []

  record Joins (k : ℕ) : Type 0 where
    a_link : IsLink t k
    first : from t k ≡ k
    second : to t k ≡ suc k

  joins_is : (k : ℕ) → T (all (joins k)) → Joins k
  joins_is k h = record {
    a_link = record { below = lit< (passed (joins k) h 0) };
    first = equal (passed (joins k) h 1);
    second = equal (passed (joins k) h 2);
  }

  joined_zero : ((k : ℕ) → suc k < ports → Joins k) → (p : ℕ) → p < ports → Joined t p 0
  joined_zero h zero l = joined_refl 0
  joined_zero h (suc p) l =
      let j = h p l in
      joined_trans (joined_sym (rw (j.first, j.second) at (linked j.a_link))) (joined_zero h p (omega arith))

  -- a well-formed table of one component, which port 0 names
  abbrev single : List Bool
  single = all formed ∷ below (λ k. all (joins k)) (ports - 1) ∷ []

  record Single : Type 0 where
    formed : WellFormed t
    chain : (k : ℕ) → suc k < ports → Joins k
    component : (p : ℕ) → p < ports → Component t p 0

  single_is : T (all single) → Single
  single_is h = record {
    formed = well_formed (passed single h 0);
    chain = chained;
    component = λ p l. record { joined = joined_zero chained p l; lowest = λ q j. omega arith };
  }
    where
      chained : (k : ℕ) → suc k < ports → Joins k
      chained k l = joins_is k (at (λ j. all (joins j)) (ports - 1) (passed single h 1) k (omega arith))

  -- ---- the weights
  abbrev last : ℕ
  last = ports - 1

  abbrev whole : (ℕ → ℕ) → ℕ → List Bool
  whole w k =
      eqb (weighed⁺ t w k) (δ° t k * (weighed⁺ t w k / δ° t k))
      ∷ eqb (weighed⁻ t w k) (δ° t k * (weighed⁻ t w k / δ° t k))
      ∷ []

  -- the last link has the δ −1 / w and leaves the last port, whose weight is w
  abbrev scaled : (ℕ → ℕ) → List Bool
  scaled w =
      ltb (links - 1) links
      ∷ eqb (from t (links - 1)) last
      ∷ eqb (δ⁻ t (links - 1)) 1
      ∷ eqb (δ° t (links - 1)) (w last)
      ∷ []

  -- the last port's is 1, or as large as δ asks, so no smaller ones are in proportion and whole
  abbrev weighed : (ℕ → ℕ) → List Bool
  weighed w =
      below (λ p. ltb 0 (w p)) ports
      ∷ below (λ k. eqb (w (to t k) * num t k) (w (from t k) * den t k)) links
      ∷ below (λ k. all (whole w k)) links
      ∷ either (eqb (w last) 1) (all (scaled w))
      ∷ []

  weights_are : (w : ℕ → ℕ) → Single → T (all (weighed w)) → WholeWeights t w
  weights_are w s h = record { proportional = proportional; whole = all_whole; smallest = smallest }
    where
      all_whole : AllWhole t w
      all_whole = record {
        each = λ k i.
            let tests = at (λ j. all (whole w j)) links (passed (weighed w) h 2) k i.below in
            record {
              forward = record { quotient = weighed⁺ t w k / δ° t k; is = equal (passed (whole w k) tests 0) };
              back = record { quotient = weighed⁻ t w k / δ° t k; is = equal (passed (whole w k) tests 1) };
            };
      }

      last_port : IsPort t last
      last_port = record { below = omega (arith, s.formed.some_port_lem) }

      -- the denominator divides 1 times the weight
      asked : (v : ℕ → ℕ) → Proportional t v → AllWhole t v → T (all (scaled w)) → w last ≤ v last
      asked v k a tests =
          let j : ℕ = links - 1 in
          let sender : from t j ≡ last = equal (passed (scaled w) tests 1) in
          let one : δ⁻ t j ≡ 1 = equal (passed (scaled w) tests 2) in
          let over : δ° t j ≡ w last = equal (passed (scaled w) tests 3) in
          let back = (a.each j (record { below = lit< (passed (scaled w) tests 0) })).back in
          divides_≤ (record {
            quotient = back.quotient;
            is = omega (arith, back.is, ap v sender, ap (λ (x : ℕ). x * v (from t j)) one, ap (λ (x : ℕ). x * back.quotient) over);
          }) (k.positive last last_port)

      last_least : (v : ℕ → ℕ) → Proportional t v → AllWhole t v → w last ≤ v last
      last_least v k a = ⊎_elim
          (λ (one : T (eqb (w last) 1)). let e : w last ≡ 1 = equal one in omega (arith, k.positive last last_port))
          (λ tests. asked v k a tests)
          (either_cases (eqb (w last) 1) (all (scaled w)) (passed (weighed w) h 3))

      proportional : Proportional t w
      proportional = record {
        positive = λ p i. lit< (at (λ q. ltb 0 (w q)) ports (passed (weighed w) h 0) p i.below);
        fits = λ k i. equal (at (λ j. eqb (w (to t j) * num t j) (w (from t j) * den t j)) links (passed (weighed w) h 1) k i.below);
      }

      smallest : (v : ℕ → ℕ) → Proportional t v → AllWhole t v → (p : ℕ) → IsPort t p → w p ≤ v p
      smallest v k a p i =
          let joined = joined_trans (s.component p i.below).joined (joined_sym (s.component last last_port.below).joined) in
          le_of_mul-le-mul_right {k = w last} (omega (
            arith,
            joined_proportion proportional k s.formed joined,
            mul-le-mul_right (w p) (last_least v k a),
          )) (proportional.positive last last_port)

  -- number 14
  abbrev over : (ℕ → ℕ) → List Bool
  over w = all single ∷ all (weighed w) ∷ ltb most_weight (w 0) ∷ []

  abbrev small : (ℕ → ℕ) → List Bool
  small w = all (weighed w) ∷ below (λ p. leb (w p) most_weight) ports ∷ []

  small_weights : (w : ℕ → ℕ) → Single → T (all (small w)) → SmallWeights t w
  small_weights w s h = record {
    weights = weights_are w s (passed (small w) h 0);
    small = λ p i. lit≤ (at (λ q. leb (w q) most_weight) ports (passed (small w) h 1) p i.below);
  }

  -- ---- limits of a/b and blocking cycles
  abbrev walks : ℕ → ℕ → List ℕ → Bool
  walks p q [] = eqb p q
  walks p q (k ∷ path) = all (ltb k links ∷ not (is_buffer (link t k)) ∷ eqb p (from t k) ∷ walks (to t k) q path ∷ [])

  module _ (w : ℕ → ℕ) where
    abbrev graph : Graph
    graph = graph_in t w 0

    abbrev cycles : List ℕ → List Bool
    cycles path = walks (from t (get_or path 0 0)) (from t (get_or path 0 0)) path ∷ distinct (reached graph path) ∷ []

    -- a/b is the floor, which is not zero
    abbrev floors : Floor → ℕ → ℕ → List Bool
    floors (rate p) a b = ltb p ports ∷ ltb 0 (graph.limit_den p) ∷ eqb (graph.limit_num p * b) (graph.limit_den p * a) ∷ []
    floors (cycle path) a b =
        all (cycles path)
        ∷ ltb (sum graph.D⁺ path) (sum graph.D⁻ path)
        ∷ eqb (sum (gain graph a b) path) (sum (loss graph a b) path)
        ∷ []
    floors zero_floor a b = false ∷ []

    abbrev blocks : List ℕ → ℕ → ℕ → List Bool
    blocks path a b =
        all (cycles path)
        ∷ leb (sum graph.D⁻ path) (sum graph.D⁺ path)
        ∷ ltb (sum (loss graph a b) path) (sum (gain graph a b) path)
        ∷ []

    -- above the floor zero: E and D are zero or more, and not both are zero
    abbrev blocks_above_zero : List ℕ → List Bool
    blocks_above_zero path =
        all (cycles path)
        ∷ leb (sum graph.D⁻ path) (sum graph.D⁺ path)
        ∷ leb (sum graph.E⁻ path) (sum graph.E⁺ path)
        ∷ ltb (sum graph.E⁻ path + sum graph.D⁻ path) (sum graph.E⁺ path + sum graph.D⁺ path)
        ∷ []

    module _ (s : Single) where
      connected : {k : ℕ} → IsConnection t k → ConnectionIn t 0 k
      connected {k} c = record { connection = c; component = s.component (from t k) (s.formed.links k c.a_link.below).from }

      walk_is : (p q : ℕ) (path : List ℕ) → T (walks p q path) → Walk graph p q path
      walk_is p q [] h = rw (eqb→eq p q h) stop
      walk_is p q (k ∷ path) h =
          let tests = ltb k links ∷ not (is_buffer (link t k)) ∷ eqb p (from t k) ∷ walks (to t k) q path ∷ [] in
          let c : IsConnection t k = record {
            a_link = record { below = lit< (passed tests h 0) };
            events = is_false (is_buffer (link t k)) (passed tests h 1);
          } in
          rw (eqb→eq p (from t k) (passed tests h 2)) (step k (connected c) (walk_is (to t k) q path (passed tests h 3)))

      cycle_is : (path : List ℕ) → T (all (cycles path)) → Cycle graph path
      cycle_is path h = record {
        at = from t (get_or path 0 0);
        closed = walk_is (from t (get_or path 0 0)) (from t (get_or path 0 0)) path (passed (cycles path) h 0);
        simple = distinct_is (reached graph path) (passed (cycles path) h 1);
      }

      rate_limit : (p a b : ℕ) → T (all (floors (rate p) a b)) → RateLimit graph p a b
      rate_limit p a b h =
          let i : p < ports = lit< (passed (floors (rate p) a b) h 0) in
          record {
            a_port = record { a_port = record { below = i }; component = s.component p i };
            rated = lit< (passed (floors (rate p) a b) h 1);
            exact = equal (passed (floors (rate p) a b) h 2);
          }

      cycle_limit : (path : List ℕ) (a b : ℕ) → T (all (floors (cycle path) a b)) → CycleLimit graph path a b
      cycle_limit path a b h = record {
        cycle = cycle_is path (passed (floors (cycle path) a b) h 0);
        falling = lit< (passed (floors (cycle path) a b) h 1);
        exact = equal (passed (floors (cycle path) a b) h 2);
      }

      floor_limit : (floor : Floor) (a b : ℕ) → T (all (floors floor a b))
          → ((p : ℕ) × RateLimit graph p a b) ⊎ ((path : List ℕ) × CycleLimit graph path a b)
      floor_limit (rate p) a b h = inl (p, rate_limit p a b h)
      floor_limit (cycle path) a b h = inr (path, cycle_limit path a b h)
      floor_limit zero_floor a b h = absurd h

      block_is : (path : List ℕ) (a b : ℕ) → T (all (blocks path a b)) → Blocks graph path a b
      block_is path a b h = record {
        cycle = cycle_is path (passed (blocks path a b) h 0);
        rising = lit≤ (passed (blocks path a b) h 1);
        positive = lit< (passed (blocks path a b) h 2);
      }

      blocked_is : (floor : Floor) (block : List ℕ) (a b : ℕ) → 0 < a → 0 < b → T (all (floors floor a b)) → T (all (blocks block a b))
          → Blocked graph floor block
      blocked_is (rate p) block a b some over h k =
          record { a = a; b = b; above_zero = some; over = over; is_limit = rate_limit p a b h; blocks = block_is block a b k }
      blocked_is (cycle path) block a b some over h k =
          record { a = a; b = b; above_zero = some; over = over; is_limit = cycle_limit path a b h; blocks = block_is block a b k }
      blocked_is zero_floor block a b some over h k = absurd h

      block_above_zero_is : (path : List ℕ) → T (all (blocks_above_zero path)) → BlocksAboveZero graph path
      block_above_zero_is path h =
          (above_zero_is (cycle_is path (passed (blocks_above_zero path) h 0))).1
          (record {
            ticks = lit≤ (passed (blocks_above_zero path) h 2);
            events = lit≤ (passed (blocks_above_zero path) h 1);
            not_both = lit< (passed (blocks_above_zero path) h 3);
          })

    -- ---- number 15, with a/b at the floor
    abbrev blocked : Floor → List ℕ → ℕ → ℕ → List Bool
    blocked floor block a b = all single ∷ all (small w) ∷ ltb 0 a ∷ ltb 0 b ∷ all (floors floor a b) ∷ all (blocks block a b) ∷ []

    -- and at the floor zero
    abbrev blocked_from_zero : List ℕ → List Bool
    blocked_from_zero block = all single ∷ all (small w) ∷ below (λ p. all (no_rate (port t p))) ports ∷ all (blocks_above_zero block) ∷ []

    -- ---- number 17: no port has a rate, and no connection adds anything at zero or at a/b, so none does between
    abbrev adds_nothing : ℕ → ℕ → ℕ → List Bool
    adds_nothing a b k = leb (ε⁺ t k) (ε⁻ t k) ∷ leb (gain graph a b k) (loss graph a b k) ∷ []

    abbrev without_least : ℕ → ℕ → List Bool
    without_least a b =
        all single
        ∷ all (small w)
        ∷ ltb 0 a
        ∷ ltb 0 b
        ∷ below (λ p. all (no_rate (port t p))) ports
        ∷ below (λ k. all (adds_nothing a b k)) links
        ∷ []

    module _ (a b : ℕ) (h : T (all (without_least a b))) where
      above_zero : 0 < a
      above_zero = lit< (passed (without_least a b) h 2)

      possible_below : (x y : ℕ) → 0 < x → 0 < y → x * b ≤ a * y → Possible graph x y
      possible_below x y some over l = record {
        above_zero = some;
        over = over;
        rates = λ p i.
            let tests = at (λ q. all (no_rate (port t q))) ports (passed (without_least a b) h 4) p i.a_port.below in
            let den : (port t p).den ≡ 0 = equal (passed (no_rate (port t p)) tests 1) in
            omega (arith, ap (λ (z : ℕ). z * y) den);
        start = λ p. 0;
        meets = record {
          holds = λ k e.
              let tests = at (λ j. all (adds_nothing a b j)) links (passed (without_least a b) h 5) k e.connection.a_link.below in
              omega (
                arith,
                not_positive_below (ε⁺ t k) (ε⁻ t k) (graph.D⁺ k) (graph.D⁻ k) a b x y above_zero
                    (lit≤ (passed (adds_nothing a b k) tests 0)) (lit≤ (passed (adds_nothing a b k) tests 1)) l,
              );
        };
      }

      -- below a'/b' and below a/b lies a · a' / (a · b' + b · a')
      no_least_is : NoLeast graph
      no_least_is = record {
        some = record { a = a; b = b; possible = possible_below a b above_zero over (omega arith) };
        smaller = λ a' b' some' over' serves. record {
          x = a * a';
          y = a * b' + b * a';
          possible = possible_below (a * a') (a * b' + b * a') (mul-pos above_zero some') (omega (arith, mul-pos above_zero over')) (omega arith);
          less = omega (arith, mul-pos (mul-pos some' over) some');
        };
      }
        where
          over : 0 < b
          over = lit< (passed (without_least a b) h 3)

pub overweight_by : {t : Table} (w : ℕ → ℕ) → T (all (over t w)) → Overweight t
overweight_by {t} w h =
    let s = single_is t (passed (over t w) h 0) in
    record {
      w = w;
      weights = weights_are t w s (passed (over t w) h 1);
      at = 0;
      a_port = record { below = s.formed.some_port_lem };
      passes = lit< (passed (over t w) h 2);
    }

-- port 0 names the one component
zeroth : {t : Table} → Single t → IsComponent t 0
zeroth s = record { a_port = record { below = s.formed.some_port_lem }; lowest = s.component 0 s.formed.some_port_lem }

-- number 15, whatever the floor is
no_period : {t : Table} {floor : Floor} {block : List ℕ} (w : ℕ → ℕ) (s : Single t) → T (all (small t w)) → Blocked (graph_in t w 0) floor block
    → NoPeriod t floor block
no_period {t} w s h k = record {
  w = w;
  weights = small_weights t w s h;
  c = 0;
  component = zeroth s;
  is_blocked = k;
  lower = λ d i l. absurd (omega arith);
}

pub blocked_by : {t : Table} {floor : Floor} {block : List ℕ} (w : ℕ → ℕ) (a b : ℕ) → T (all (blocked t w floor block a b))
    → NoPeriod t floor block
blocked_by {t} {floor} {block} w a b h =
    let tests = blocked t w floor block a b in
    let s = single_is t (passed tests h 0) in
    no_period w s (passed tests h 1) (blocked_is t w s floor block a b (lit< (passed tests h 2)) (lit< (passed tests h 3)) (passed tests h 4) (passed tests h 5))

pub blocked_from_zero_by : {t : Table} {block : List ℕ} (w : ℕ → ℕ) → T (all (blocked_from_zero t w block)) → NoPeriod t zero_floor block
blocked_from_zero_by {t} {block} w h =
    let tests = blocked_from_zero t w block in
    let s = single_is t (passed tests h 0) in
    no_period {floor = zero_floor} w s (passed tests h 1) (record {
      is_zero = record {
        unrated = λ p i.
            let rates = at (λ q. all (no_rate (port t q))) (ports t) (passed tests h 2) p i.a_port.below in
            let num : (port t p).num ≡ 0 = equal (passed (no_rate (port t p)) rates 0) in
            omega (arith, ap (λ (z : ℕ). z * w p) num);
      };
      blocks = block_above_zero_is t w s block (passed tests h 3);
    })

pub no_least_by : {t : Table} (w : ℕ → ℕ) (a b : ℕ) → T (all (without_least t w a b)) → NoLeastPeriod t
no_least_by {t} w a b h =
    let tests = without_least t w a b in
    let s = single_is t (passed tests h 0) in
    let no_least_lem = no_least_is t w a b h in
    record {
      w = w;
      weights = small_weights t w s (passed tests h 1);
      component = λ p. 0;
      components = λ p i. s.component p i.below;
      periods = λ d i. rw (component_unique i.lowest (s.component d i.a_port.below)) no_least_lem.some;
      c = 0;
      is_component = zeroth s;
      no_least_lem = no_least_lem;
    }

-- ---- number 0
-- b divides a − 1: enough for the models, and computed by one division
coprime_by : {a b : ℕ} (y : ℕ) → a ≡ b * y + 1 → Coprime a b
coprime_by {a} {b} y e = record { only = λ d p q. divides_one (divides_rest (b * y) (divides_times y q) (rw (← e) p)) }

-- d is 0, or d − 1 is too few
no_fewer : (x y z d e : ℕ) → T (either (eqb d 0) (not (leb x (y + (d - 1) * z)))) → x ≤ y + e * z → d ≤ e
no_fewer x y z d e h f = ⊎_elim
    (λ k. omega (arith, eqb→eq d 0 k))
    (λ k. le_of_pred (nleb→lt x (y + (d - 1) * z) k))
    (either_cases (eqb d 0) (not (leb x (y + (d - 1) * z))) h)
  where
    le_of_pred : y + (d - 1) * z < x → d ≤ e
    le_of_pred l = let less : d - 1 < e = lt_of_mul-lt-mul_right z (omega arith) in omega arith

module _ (t : Table) (r : Timing) where
  -- (2) at a/b
  abbrev meets : ℕ → ℕ → ℕ → Bool
  meets a b k = either (is_buffer (link t k)) (leb
      (r.start (from t k) + gain (graph t r.weight) a b k)
      (r.start (to t k) + loss (graph t r.weight) a b k))

  -- (3) at a/b
  abbrev slow : ℕ → ℕ → ℕ → Bool
  slow a b p = leb ((graph t r.weight).limit_num p * b) ((graph t r.weight).limit_den p * a)

  -- the start of port k + 1 is just what connection k asks
  abbrev asked : ℕ → ℕ → ℕ → List Bool
  asked a b k =
      not (is_buffer (link t k))
      ∷ eqb (r.start (suc k) + loss (graph t r.weight) a b k) (r.start k + gain (graph t r.weight) a b k)
      ∷ []

  -- a/b is the floor, which is enough, and the starts are least
  abbrev timely : Floor → ℕ → ℕ → List Bool
  timely floor a b =
      ltb 0 a
      ∷ eqb a (b * ((a - 1) / b) + 1)
      ∷ all (floors t r.weight floor a b)
      ∷ below (slow a b) (ports t)
      ∷ below (meets a b) (links t)
      ∷ below (λ k. all (asked a b k)) (ports t - 1)
      ∷ []

  -- a/b is that of port p
  abbrev timely_at : Floor → ℕ → List Bool
  timely_at floor p = eqb (r.component p) 0 ∷ all (timely floor (r.a p) (r.b p)) ∷ []

  -- so many events are enough for buffer k
  abbrev enough : ℕ → ℕ → Bool
  enough k d = leb
      (r.start (from t k) + ε⁺ t k * r.b (from t k))
      (r.start (to t k) + ε⁻ t k * r.b (from t k) + d * (r.weight (from t k) * r.a (from t k)))

  abbrev fewest : ℕ → List Bool
  fewest k = enough k (r.size k) ∷ either (eqb (r.size k) 0) (not (enough k (r.size k - 1))) ∷ []

  abbrev sized : ℕ → Bool
  sized k = either (not (is_buffer (link t k))) (all (fewest k))

  abbrev consistent : Floor → List Bool
  consistent floor =
      all (single t)
      ∷ all (small t r.weight)
      ∷ eqb (r.start 0) 0
      ∷ below (λ p. all (timely_at floor p)) (ports t)
      ∷ below sized (links t)
      ∷ []

  module _ (a b : ℕ) where
    starts_meet : T (below (meets a b) (links t)) → Meets (graph t r.weight) a b r.start
    starts_meet h = record {
      holds = λ k e. lit≤ (rw e.connection.events at (at (meets a b) (links t) h k e.connection.a_link.below));
    }

    starts_least : Single t → r.start 0 ≡ 0 → T (below (λ k. all (asked a b k)) (ports t - 1))
        → (S : ℕ → ℕ) → Meets (graph t r.weight) a b S → (p : ℕ) → p < ports t → r.start p ≤ S p
    starts_least s e h S f zero l = omega arith
    starts_least s e h S f (suc k) l =
        let j = s.chain k l in
        let tests = at (λ i. all (asked a b i)) (ports t - 1) h k (omega arith) in
        let c : IsConnection t k = record { a_link = j.a_link; events = is_false (is_buffer (link t k)) (passed (asked a b k) tests 0) } in
        let exact : r.start (suc k) + loss (graph t r.weight) a b k ≡ r.start k + gain (graph t r.weight) a b k =
        equal (passed (asked a b k) tests 1) in
        omega (
          arith,
          exact,
          f.holds k (connected t r.weight s c),
          ap S j.first,
          ap S j.second,
          starts_least s e h S f k (omega arith),
        )

    module _ (floor : Floor) (s : Single t) (h : T (all (timely floor a b))) where
      period_is : 0 < b → Period (graph t r.weight) a b
      period_is over = record {
        above_zero = lit< (passed (timely floor a b) h 0);
        over = over;
        lowest = coprime_by ((a - 1) / b) (equal (passed (timely floor a b) h 1));
        serves = serves_meets (starts_meet (passed (timely floor a b) h 4))
            (λ p i. lit≤ (at (slow a b) (ports t) (passed (timely floor a b) h 3) p i.a_port.below));
        limit = floor_limit t r.weight s floor a b (passed (timely floor a b) h 2);
      }

      starts_are : r.start 0 ≡ 0 → LeastStarts (graph t r.weight) a b r.start
      starts_are e = record {
        meets = starts_meet (passed (timely floor a b) h 4);
        least = λ S f p i. starts_least s e (passed (timely floor a b) h 5) S f p i.a_port.below;
      }

  size_is : (k : ℕ) → IsBuffer t k → T (sized k) → Size t r k (r.size k)
  size_is k i h =
      let tests : T (all (fewest k)) = rw i.no_events at h in
      record {
        enough = record { holds = lit≤ (passed (fewest k) tests 0) };
        fewest = λ e f. no_fewer _ _ _ (r.size k) e (passed (fewest k) tests 1) f.holds;
      }

pub consistent_by : {t : Table} {r : Timing} (floor : Floor) → T (all (consistent t r floor)) → Consistent t r
consistent_by {t} {r} floor h = record {
  components = λ p i. rw (zero_at p i) (s.component p i.below);
  weights = small_weights t r.weight s (passed (consistent t r floor) h 1);
  periods = λ p i. rw (zero_at p i) (period_is t r (r.a p) (r.b p) floor s (passed (timely_at t r floor p) (timely_at_lem p i) 1) (r.over p));
  starts = λ p i. rw (zero_at p i)
      (starts_are t r (r.a p) (r.b p) floor s (passed (timely_at t r floor p) (timely_at_lem p i) 1) (equal (passed (consistent t r floor) h 2)));
  sizes = λ k i. size_is t r k i (at (sized t r) (links t) (passed (consistent t r floor) h 4) k i.a_link.below);
}
  where
    s : Single t
    s = single_is t (passed (consistent t r floor) h 0)

    timely_at_lem : (p : ℕ) → IsPort t p → T (all (timely_at t r floor p))
    timely_at_lem p i = at (λ q. all (timely_at t r floor q)) (ports t) (passed (consistent t r floor) h 3) p i.below

    zero_at : (p : ℕ) → IsPort t p → r.component p ≡ 0
    zero_at p i = equal (passed (timely_at t r floor p) (timely_at_lem p i) 0)
