-- From a table to one that means the same: its ports and links, ways, components and weights.
use Rattle.std.specs.Prelude.{ℕ, ◌*◌, ◌<◌, ◌≡◌, refl, List, map, length}
use Rattle.std.proofs.Common.{sym, ap, ◌∙◌, arith}
use Rattle.std.proofs.Math.Nat.{eq_of_mul-eq-mul_right}
use Rattle.numbers.specs.Divisors.{Divides}
use Rattle.table.specs.WellFormed.{WellFormed}
use Rattle.specification.specs.Table.{Table, link, IsPort, IsLink, IsConnection, IsBuffer, from, δ⁺, δ⁻}
use Rattle.specification.specs.Ratios.{
  Step,
  leaves,
  comes,
  Way,
  stay,
  walk,
  above,
  below,
  Joined,
  Component,
  IsComponent,
  DisagreeingLoop,
  Proportional,
  AllWhole,
  WholeWeights,
  SmallWeights,
  Overweight,
}
use Rattle.specification.specs.Meaning.{SameMeaning, SameModel}
use Rattle.specification.specs.declared.Link.{Link}

-- two tables within their limits that differ only in how each δ is written
pub record TwoWritings (t u : Table) : Type 0 where
  pub one : WellFormed t
  pub other : WellFormed u
  pub same : SameModel t u

meaning_back : {l m : Link} → SameMeaning l m → SameMeaning m l
meaning_back s = record {
  from = sym s.from;
  to = sym s.to;
  num = sym s.num;
  den = sym s.den;
  ticks = sym s.ticks;
  buffer = sym s.buffer;
  events_forward = sym s.events_forward;
  events_back = sym s.events_back;
}

pub exchange : {t u : Table} → TwoWritings t u → TwoWritings u t
exchange o = record {
  one = o.other;
  other = o.one;
  same = record {
    ports = sym o.same.ports;
    count = sym o.same.count;
    links = λ k i. meaning_back (o.same.links k (record { below = omega (arith, i.below, o.same.count) }));
  };
}

-- a whole quotient is one of every fraction of the same value
divides_same : {c d : ℕ} (x y w : ℕ) → 0 < d → x * d ≡ y * c → Divides d (y * w) → Divides c (x * w)
divides_same {c} {d} x y w some e h = record {
  quotient = h.quotient;
  is = eq_of_mul-eq-mul_right d some (x * w) (c * h.quotient) (omega (arith, ap (λ (n : ℕ). n * w) e, ap (λ (n : ℕ). n * c) h.is));
}

module _ {t u : Table} (o : TwoWritings t u) where
  pub port_there : {p : ℕ} → IsPort t p → IsPort u p
  port_there i = record { below = omega (arith, i.below, ap length o.same.ports) }

  pub link_there : {k : ℕ} → IsLink t k → IsLink u k
  link_there i = record { below = omega (arith, i.below, o.same.count) }

  pub link_same : (k : ℕ) → IsLink t k → SameMeaning (link t k) (link u k)
  link_same k i = o.same.links k i

  pub connection_there : {k : ℕ} → IsConnection t k → IsConnection u k
  connection_there {k} i = record { a_link = link_there i.a_link; events = sym (link_same k i.a_link).buffer ∙ i.events }

  pub buffer_there : {k : ℕ} → IsBuffer t k → IsBuffer u k
  buffer_there {k} i = record { a_link = link_there i.a_link; no_events = sym (link_same k i.a_link).buffer ∙ i.no_events }

  -- ---- ways
  leaves_same : (s : Step) → IsLink t s.number → leaves t s ≡ leaves u s
  leaves_same s i = let l = link_same s.number i in rw (l.from, l.to)

  comes_same : (s : Step) → IsLink t s.number → comes t s ≡ comes u s
  comes_same s i = let l = link_same s.number i in rw (l.from, l.to)

  way_there : {p q : ℕ} {path : List Step} → Way t p q path → Way u p q path
  way_there stay = stay
  way_there (walk s i v) = rw (leaves_same s i) (walk s (link_there i) (rw (comes_same s i) at (way_there v)))

  comes_all : {p q : ℕ} {path : List Step} → Way t p q path → map (comes t) path ≡ map (comes u) path
  comes_all stay = refl
  comes_all (walk s i v) = rw (comes_same s i, comes_all v)

  above_same : {p q : ℕ} {path : List Step} → Way t p q path → above t path ≡ above u path
  above_same stay = refl
  above_same (walk s i v) = let l = link_same s.number i in rw (l.num, l.den, above_same v)

  below_same : {p q : ℕ} {path : List Step} → Way t p q path → below t path ≡ below u path
  below_same stay = refl
  below_same (walk s i v) = let l = link_same s.number i in rw (l.num, l.den, below_same v)

  pub loop_there : {loop : List Step} → DisagreeingLoop t loop → DisagreeingLoop u loop
  loop_there l = record {
    at = l.at;
    way = way_there l.way;
    ports = rw (comes_all l.way) at l.ports;
    links = l.links;
    unequal = λ e. l.unequal (above_same l.way ∙ e ∙ sym (below_same l.way));
  }

  joined_there : {p q : ℕ} → Joined t p q → Joined u p q
  joined_there j = record { path = j.path; way = way_there j.way }

  -- ---- weights
  proportional_back : {w : ℕ → ℕ} → Proportional u w → Proportional t w
  proportional_back {w} h = record {
    positive = λ p i. h.positive p (port_there i);
    fits = λ k i. let l = link_same k i in rw (l.from, l.to, l.num, l.den) (h.fits k (link_there i));
  }

  pub whole_back : {w : ℕ → ℕ} → AllWhole u w → AllWhole t w
  whole_back {w} h = record {
    each = λ k i.
        let l = link_same k i in
        let whole = h.each k (link_there i) in
        let over = (o.other.links k (link_there i).below).over_least in
        record {
          forward = rw l.from (divides_same (δ⁺ t k) (δ⁺ u k) (w (from u k)) over l.events_forward whole.forward);
          back = rw l.from (divides_same (δ⁻ t k) (δ⁻ u k) (w (from u k)) over l.events_back whole.back);
        };
  }

pub component_there : {t u : Table} {p c : ℕ} → TwoWritings t u → Component t p c → Component u p c
component_there o h = record { joined = joined_there o h.joined; lowest = λ q j. h.lowest q (joined_there (exchange o) j) }

pub names_there : {t u : Table} {c : ℕ} → TwoWritings t u → IsComponent t c → IsComponent u c
names_there o h = record { a_port = port_there o h.a_port; lowest = component_there o h.lowest }

weights_there : {t u : Table} {w : ℕ → ℕ} → TwoWritings t u → WholeWeights t w → WholeWeights u w
weights_there o h = record {
  proportional = proportional_back (exchange o) h.proportional;
  whole = whole_back (exchange o) h.whole;
  smallest = λ v k a p i. h.smallest v (proportional_back o k) (whole_back o a) p (port_there (exchange o) i);
}

pub small_there : {t u : Table} {w : ℕ → ℕ} → TwoWritings t u → SmallWeights t w → SmallWeights u w
small_there o h = record { weights = weights_there o h.weights; small = λ p i. h.small p (port_there (exchange o) i) }

pub overweight_there : {t u : Table} → TwoWritings t u → Overweight t → Overweight u
overweight_there o h = record {
  w = h.w;
  weights = weights_there o h.weights;
  at = h.at;
  a_port = port_there o h.a_port;
  passes = h.passes;
}
