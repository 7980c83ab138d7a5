-- Right answers to two tables that differ only in the order of their links: one number, and the same of each port.
use Rattle.std.specs.Prelude.{ℕ, zero, suc, ◌*◌, ◌≤◌, ◌<◌, ◌≡◌, refl, ◌≢◌, cond, List, [], ◌∷◌, length, get_or}
use Rattle.std.proofs.Common.{sym, ap, subst, ◌∙◌, ⊎_elim, le_antisymm, arith}
use Rattle.std.proofs.Math.Decide.{ℕ_discrete}
use Rattle.std.proofs.Math.Nat.{eq_of_mul-eq-mul_left, eq_of_mul-eq-mul_right}
use Rattle.numbers.specs.Rationals.{Rational, ◌≼◌, ◌≈◌, ◌⊕◌, ◌·◌, ◌⊗◌, signed, ratio, whole}
use Rattle.numbers.specs.RationalLaws.{≼_trans, ≼_not_≺, ≼_antisym, ≈-≼, ≈_sym}
use Rattle.numbers.specs.Divisors.{Divides}
use Rattle.numbers.specs.Gcd.{coprime_unique}
use Rattle.numbers.specs.ListLaws.{lt_or_le}
use Rattle.table.specs.WellFormed.{WellFormed}
use Rattle.table.specs.ReadingLaws.{well_formed}
use Rattle.specification.specs.Reading.{read_table}
use Rattle.specification.specs.Table.{Table, no_port, IsPort, IsLink, IsConnection, is_buffer, from}
use Rattle.specification.specs.Ratios.{Step, Way, stay, walk, leaves, comes, Joined, Component, Proportional, AllWhole, WholeWeights, SmallWeights, Overweight, DisagreeingLoop}
use Rattle.specification.specs.Bracketing.{SamePort, SameUpToOrder}
use Rattle.specification.specs.Solutions.{Starts, IsSolution, Solution, LeastSolution}
use Rattle.specification.specs.Answers.{
  Timing,
  period_of,
  start_of,
  Floor,
  Answer,
  refused,
  disagreeing,
  overweight,
  blocked,
  no_least,
  consistent,
  number,
  port_records,
  NoPeriod,
  NoLeastPeriod,
  Consistent,
  Right,
  least_room,
  AnswerOf,
}
use Rattle.specification.specs.declared.Port.{Port}
use Rattle.specification.specs.declared.Link.{Link}
use Rattle.ways.specs.WayLaws.{joined_refl, joined_trans, component_unique}
use Rattle.ways.specs.WeightLaws.{no_proportion}
use Rattle.ways.specs.WholeLaws.{whole_unique}
use Rattle.demands.specs.ConstraintLaws.{from_port}
use Rattle.demands.specs.SolutionLaws.{added_≈}
use Rattle.demands.specs.NoLeastLaws.{no_least_solved, no_least_solution}
use Rattle.demands.specs.Demand2Laws.{none_blocked, demand_2}
use Rattle.demands.specs.Reordered.{Reordered, reordered_back}

-- ---- from one table to the other: `-there` from t to u, `-back` from u to t
module _ {t u : Table} (same : Reordered t u) where
  port_there : {p : ℕ} → IsPort t p → IsPort u p
  port_there i = record { below = omega (arith, i.below, ap length same.ports) }

  -- the same link at its place in u
  step_there : (s : Step) → IsLink t s.number → Joined u (leaves t s) (comes t s)
  step_there s i =
      let s' : Step = record { number = same.there.place s.number i; against = s.against } in
      subst (λ (l : Link). Joined u (cond s.against l.to l.from) (cond s.against l.from l.to)) (same.there.is s.number i)
      (record { path = s' ∷ []; way = walk s' (same.there.a_link s.number i) stay })

  way_there : {p q : ℕ} {path : List Step} → Way t p q path → Joined u p q
  way_there (stay {p = p}) = joined_refl p
  way_there (walk s i v) = joined_trans (step_there s i) (way_there v)

  proportional_back : {w : ℕ → ℕ} → Proportional u w → Proportional t w
  proportional_back {w} h = record {
    positive = λ p i. h.positive p (port_there i);
    fits = λ k i.
        subst (λ (l : Link). w l.to * l.num ≡ w l.from * l.den) (same.there.is k i)
        (h.fits (same.there.place k i) (same.there.a_link k i));
  }

  whole_back : {w : ℕ → ℕ} → AllWhole u w → AllWhole t w
  whole_back {w} h = record {
    each = λ k i.
        let whole = h.each (same.there.place k i) (same.there.a_link k i) in
        record {
          forward = subst (λ (l : Link). Divides l.over (l.events.0 * w l.from)) (same.there.is k i) whole.forward;
          back = subst (λ (l : Link). Divides l.over (l.events.1 * w l.from)) (same.there.is k i) whole.back;
        };
  }

  connection_there : {k : ℕ} (i : IsConnection t k) → IsConnection u (same.there.place k i.a_link)
  connection_there {k} i = record {
    a_link = same.there.a_link k i.a_link;
    events = ap is_buffer (same.there.is k i.a_link) ∙ i.events;
  }

  starts_back : {P S : ℕ → Rational} → Starts u P S → Starts t P S
  starts_back {P} {S} h = record {
    holds = λ k i.
        subst
        (λ (l : Link). (some : 0 < l.over)
        → S l.from ⊕ signed l.ticks.0 l.ticks.1 ⊕ ratio l.events.0 l.events.1 l.over some ⊗ P l.from ≼ S l.to)
        (same.there.is k i.a_link)
        (h.holds (same.there.place k i.a_link) (connection_there i));
  }

  solution_back : {P S : ℕ → Rational} → IsSolution u P S → IsSolution t P S
  solution_back {P} h = record {
    above_zero = λ p i. h.above_zero p (port_there i);
    ratios = record {
      holds = λ k i.
          subst (λ (l : Link). l.num · P l.to ≈ l.den · P l.from) (same.there.is k i)
          (h.ratios.holds (same.there.place k i) (same.there.a_link k i));
    };
    starts = starts_back h.starts;
    rates = record {
      holds = λ p i.
          subst (λ (ps : List Port). whole (get_or ps p no_port).den ≼ (get_or ps p no_port).num · P p) (sym same.ports)
          (h.rates.holds p (port_there i));
    };
  }

component_back : {t u : Table} {p c : ℕ} → Reordered t u → Component u p c → Component t p c
component_back same h = record {
  joined = way_there (reordered_back same) h.joined.way;
  lowest = λ q j. h.lowest q (way_there same j.way);
}

weights_back : {t u : Table} {w : ℕ → ℕ} → Reordered t u → WholeWeights u w → WholeWeights t w
weights_back same h = record {
  proportional = proportional_back same h.proportional;
  whole = whole_back same h.whole;
  smallest = λ v k a p i.
      h.smallest v (proportional_back (reordered_back same) k) (whole_back (reordered_back same) a) p (port_there same i);
}

-- ---- two consistent answers
-- two tables within their limits that differ only in the order of their links
pub record TwoOrders (t u : Table) : Type 0 where
  pub one : WellFormed t
  pub other : WellFormed u
  pub same : Reordered t u

exchange : {t u : Table} → TwoOrders t u → TwoOrders u t
exchange o = record { one = o.other; other = o.one; same = reordered_back o.same }

starts_≈ : {t : Table} {P Q S : ℕ → Rational} → WellFormed t → ((p : ℕ) → IsPort t p → P p ≈ Q p) → Starts t P S → Starts t Q S
starts_≈ {t} {S = S} formed same h = record {
  holds = λ k l some.
      ≼_trans
      (≈-≼ (added_≈ t k some (S (from t k)) (≈_sym (same (from t k) (from_port formed k l.a_link)))))
      (h.holds k l some);
}

least_of : {t : Table} {r : Timing} → WellFormed t → Consistent t r → LeastSolution t r
least_of {r = r} formed h = (demand_2 formed h).least r refl

solution_of : {t : Table} {r : Timing} → WellFormed t → Consistent t r → Solution t
solution_of {r = r} formed h = record { period = period_of r; start = start_of r; meets = (least_of formed h).solution }

-- a solution of the other table
abbrev other_solution : {t u : Table} → TwoOrders t u → Solution u → Solution t
other_solution o s = record { period = s.period; start = s.start; meets = solution_back o.same s.meets }

period_least : {t u : Table} {r r' : Timing} → TwoOrders t u → Consistent t r → Consistent u r' → (p : ℕ) → IsPort t p
    → period_of r p ≼ period_of r' p
unfolding solution_of
period_least o h h' p i = (least_of o.one h).least_periods (other_solution o (solution_of o.other h')) p i

same_periods : {t u : Table} {r r' : Timing} → TwoOrders t u → Consistent t r → Consistent u r' → (p : ℕ) → IsPort t p
    → period_of r p ≈ period_of r' p
same_periods o h h' p i = ≼_antisym (period_least o h h' p i) (period_least (exchange o) h' h p (port_there o.same i))

start_least : {t u : Table} {r r' : Timing} → TwoOrders t u → Consistent t r → Consistent u r' → (p : ℕ) → IsPort t p
    → start_of r p ≼ start_of r' p
unfolding solution_of
start_least {r' = r'} o h h' p i =
    (least_of o.one h).least_starts (start_of r') (λ q j. omega arith)
    (starts_≈ o.one (λ q j. ≈_sym (same_periods o h h' q j)) (other_solution o (solution_of o.other h')).meets.starts) p i

pub same_port : {t u : Table} {r r' : Timing} → TwoOrders t u → Consistent t r → Consistent u r' → (p : ℕ) → IsPort t p → SamePort r r' p
same_port {r = r} {r' = r'} o h h' p i =
    let i' = port_there o.same i in
    let weight = whole_unique h.weights.weights (weights_back o.same h'.weights.weights) p i in
    let period = h.periods p i in
    let period' = h'.periods p i' in
    let parts = coprime_unique period.lowest period'.lowest period'.over
    (eq_of_mul-eq-mul_left (r.weight p) (h.weights.weights.proportional.positive p i) (r.a p * r'.b p) (r'.a p * r.b p)
    (omega (arith, (same_periods o h h' p i).holds, ap (λ (x : ℕ). x * r'.a p * r.b p) weight))) in
    let start : r.start p * r'.b p ≡ r'.start p * r.b p =
    le_antisymm (omega (arith, (start_least o h h' p i).holds)) (omega (arith, (start_least (exchange o) h' h p i').holds)) in
    record {
      component = component_unique (h.components p i) (component_back o.same (h'.components p i'));
      weight = weight;
      a = parts.0;
      b = parts.1;
      start = eq_of_mul-eq-mul_right (r.b p) (r.over p) (r.start p) (r'.start p)
          (omega (arith, start, ap (λ (x : ℕ). r.start p * x) parts.1));
    }

-- the records of the ports
pub same_port_records : {r r' : Timing} (n : ℕ) → ((p : ℕ) → p < n → SamePort r r' p) → port_records r n ≡ port_records r' n
unfolding port_records
same_port_records zero same = refl
same_port_records (suc n) same =
    let s = same n (omega arith) in
    rw (same_port_records n (λ p h. same p (omega arith)), s.component, s.weight, s.a, s.b, s.start)

-- ---- answers of two numbers
not_disagreeing : {t u : Table} {loop : List Step} {w : ℕ → ℕ} → TwoOrders t u → DisagreeingLoop t loop → ¬ WholeWeights u w
not_disagreeing o l h = no_proportion l.way l.unequal o.one (proportional_back o.same h.proportional)

not_overweight : {t u : Table} {w : ℕ → ℕ} → TwoOrders t u → Overweight t → ¬ SmallWeights u w
not_overweight o l h = omega (
  arith,
  whole_unique l.weights (weights_back o.same h.weights) l.at l.a_port,
  h.small l.at (port_there o.same l.a_port),
  l.passes,
)

not_blocked : {t u : Table} {floor : Floor} {block : List ℕ} → TwoOrders t u → NoPeriod t floor block → ¬ Solution u
not_blocked o n s = none_blocked o.one n (other_solution o s)

-- the periods of a consistent answer are the least, and at 17 none are
not_without_least : {t u : Table} {r : Timing} → TwoOrders t u → NoLeastPeriod t → ¬ Consistent u r
unfolding solution_of
not_without_least o n h =
    let l = no_least_solution o.one n in
    let s = l.smaller (other_solution o (solution_of o.other h)) in
    ≼_not_≺ ((least_of o.other h).least_periods (other_solution (exchange o) s.other) l.p (port_there o.same l.a_port)) s.less

-- ---- two answers
-- the pairs of answers to two tables: both of one kind
pub data Pair (t u : Table) : Answer → Answer → Type 0 where
  both_refused : (n : ℕ) → n ≢ 0 → Pair t u (refused n) (refused n)
  both_disagreeing : (loop loop' : List Step) → Pair t u (disagreeing loop) (disagreeing loop')
  both_overweight : Pair t u overweight overweight
  both_blocked : (floor floor' : Floor) (block block' : List ℕ) → Pair t u (blocked floor block) (blocked floor' block')
  both_no_least : Pair t u no_least no_least
  both_consistent : {r r' : Timing} → TwoOrders t u → Consistent t r → Consistent u r' → Pair t u (consistent r) (consistent r')

pair_of : {t u : Table} {x y : Answer} → TwoOrders t u → Right t x → Right u y → Pair t u x y
pair_of {x = refused n} o h k = absurd h
pair_of {x = disagreeing l} {y = refused n} o h k = absurd k
pair_of {x = overweight} {y = refused n} o h k = absurd k
pair_of {x = blocked f b} {y = refused n} o h k = absurd k
pair_of {x = no_least} {y = refused n} o h k = absurd k
pair_of {x = consistent r} {y = refused n} o h k = absurd k
pair_of {x = disagreeing l} {y = disagreeing m} o h k = both_disagreeing l m
pair_of {x = disagreeing l} {y = overweight} o h k = absurd (not_disagreeing o h k.weights)
pair_of {x = disagreeing l} {y = blocked f b} o h k = absurd (not_disagreeing o h k.weights.weights)
pair_of {x = disagreeing l} {y = no_least} o h k = absurd (not_disagreeing o h k.weights.weights)
pair_of {x = disagreeing l} {y = consistent r} o h k = absurd (not_disagreeing o h k.weights.weights)
pair_of {x = overweight} {y = disagreeing l} o h k = absurd (not_disagreeing (exchange o) k h.weights)
pair_of {x = overweight} {y = overweight} o h k = both_overweight
pair_of {x = overweight} {y = blocked f b} o h k = absurd (not_overweight o h k.weights)
pair_of {x = overweight} {y = no_least} o h k = absurd (not_overweight o h k.weights)
pair_of {x = overweight} {y = consistent r} o h k = absurd (not_overweight o h k.weights)
pair_of {x = blocked f b} {y = disagreeing l} o h k = absurd (not_disagreeing (exchange o) k h.weights.weights)
pair_of {x = blocked f b} {y = overweight} o h k = absurd (not_overweight (exchange o) k h.weights)
pair_of {x = blocked f b} {y = blocked g c} o h k = both_blocked f g b c
pair_of {x = blocked f b} {y = no_least} o h k = absurd (not_blocked o h (no_least_solved o.other k))
pair_of {x = blocked f b} {y = consistent r} o h k = absurd (not_blocked o h (solution_of o.other k))
pair_of {x = no_least} {y = disagreeing l} o h k = absurd (not_disagreeing (exchange o) k h.weights.weights)
pair_of {x = no_least} {y = overweight} o h k = absurd (not_overweight (exchange o) k h.weights)
pair_of {x = no_least} {y = blocked f b} o h k = absurd (not_blocked (exchange o) k (no_least_solved o.one h))
pair_of {x = no_least} {y = no_least} o h k = both_no_least
pair_of {x = no_least} {y = consistent r} o h k = absurd (not_without_least o h k)
pair_of {x = consistent r} {y = disagreeing l} o h k = absurd (not_disagreeing (exchange o) k h.weights.weights)
pair_of {x = consistent r} {y = overweight} o h k = absurd (not_overweight (exchange o) k h.weights)
pair_of {x = consistent r} {y = blocked f b} o h k = absurd (not_blocked (exchange o) k (solution_of o.one h))
pair_of {x = consistent r} {y = no_least} o h k = absurd (not_without_least (exchange o) k h)
pair_of {x = consistent r} {y = consistent r'} o h k = both_consistent o h k

-- two answers of one number, the first not consistent
only_number : {t : Table} {x y : Answer} → number x ≡ number y → ((r : Timing) → x ≡ consistent r → ⊥) → SameUpToOrder t x y
only_number e f = record { same_number = e; same_ports = λ r r' a b. absurd (f r a) }

pub same_of : {t u : Table} {x y : Answer} → Pair t u x y → SameUpToOrder t x y
same_of (both_refused n f) = only_number refl (λ r e. f (ap number e))
same_of (both_disagreeing l m) = only_number refl (λ r e. omega (arith, ap number e))
same_of both_overweight = only_number refl (λ r e. omega (arith, ap number e))
same_of (both_blocked f g b c) = only_number refl (λ r e. omega (arith, ap number e))
same_of both_no_least = only_number refl (λ r e. omega (arith, ap number e))
same_of (both_consistent {r = r} {r' = r'} o h k) = record {
  same_number = refl;
  same_ports = λ q q' e e' p i.
      let a : r ≡ q = cc in
      let b : r' ≡ q' = cc in
      rw (← a, ← b) (same_port o h k p i);
}

-- ---- answers to two byte strings
refusals : {t u : Table} {x y : Answer} {n m : ℕ} → n ≡ m → n ≢ 0 → x ≡ refused n → y ≡ refused m → Pair t u x y
refusals {m = m} e f a b = rw (a, b, e) (both_refused m (λ z. f (e ∙ z)))

pub answers_pair : {s s' : List ℕ} {room : ℕ} {x y : Answer} → (read_table s).number ≡ (read_table s').number
    → Reordered (read_table s).table (read_table s').table
    → AnswerOf s room x
    → AnswerOf s' room y
    → Pair (read_table s).table (read_table s').table x y
answers_pair {s} {s'} {room} {x} {y} e same h k =
    ⊎_elim (λ (short : room < least_room). refusals refl (λ e. omega (arith, e)) (h.short short) (k.short short))
    (λ (enough : least_room ≤ room). decided enough (ℕ_discrete (read_table s).number 0)) (lt_or_le room least_room)
  where
    decided : least_room ≤ room → Dec ((read_table s).number ≡ 0) → Pair (read_table s).table (read_table s').table x y
    decided enough (yes z) =
        let z' : (read_table s').number ≡ 0 = sym e ∙ z in
        pair_of (record { one = well_formed s refl z; other = well_formed s' refl z'; same = same }) (h.right enough z) (k.right enough z')
    decided enough (no f) = refusals e f (h.faulty enough f) (k.faulty enough (λ z. f (e ∙ z)))
