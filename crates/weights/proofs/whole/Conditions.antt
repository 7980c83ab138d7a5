-- What a condition does to the weights, and what is known when all hold or a weight passes 10,000.
use Prim.Native.Nat.{ℕ, ◌+◌, ◌*◌, ◌/◌, ◌%◌, ◌≤◌, ◌<◌}
use mathlib.Core.Path.{◌≡◌, ap, ◌∙◌}
use mathlib.Core.Bool.{cond}
use mathlib.Core.List.{List}
use mathlib.Core.Logic.{⊎_elim}
use native.Mathlib.Omega.{arith}
use lib.Dec.{eqb}
use lib.ListN.{length, get_or, take}
use Rattle.std.proofs.lemmas.List.{length-take-le, get_or-take}
use Rattle.numbers.specs.ListLaws.{lt_or_le}
use Rattle.table.specs.WellFormed.{WellFormed}
use Rattle.specification.specs.declared.Link.{Link}
use Rattle.specification.specs.Table.{Table, port_count, link_count, link, from, δ°, IsPort}
use Rattle.specification.specs.Ratios.{Overweight, most_weight}
use Rattle.ways.specs.Labels.{Components}
use Rattle.ways.specs.Scaling.{lacking, scaling_none, scaling_times, scaling_on}
use Rattle.ways.specs.WholeLaws.{amount_of, ScaledBy, scaled_weights, scaled_divides, scaled_end, condition_over, condition_port}
use Rattle.weights.specs.Weighed.{HasBaseWeights, BaseOverweight, HasWeights}
use Rattle.weights.specs.Scaled.{MultipliedTo, Passing}
use Rattle.weights.proofs.whole.Multiplying.{multiplied_front, passing_front}

-- some weight passes 10,000, as the weights after n conditions or as document 01's
passing : {t : Table} {labels : List ℕ} {n : ℕ} {w : ℕ → ℕ} {p : ℕ} → WellFormed t → Components t labels → n ≤ 2 * link_count t → ScaledBy t n w → IsPort t p
    → most_weight < w p
    → Overweight t
passing {p = p} formed components few s i more =
    let (v, weights) = scaled_end formed components few s in
    record { w = v; weights = weights; at = p; a_port = i; passes = omega (arith, scaled_divides s few weights i) }

pub base_passing : {t : Table} {labels : List ℕ} → WellFormed t → Components t labels → BaseOverweight t → Overweight t
base_passing formed components o = passing formed components (omega arith) (scaling_none formed components o.weights) o.a_port o.passes

-- the weights after n conditions
pub record ScaledSo (t : Table) (n : ℕ) (weights : List ℕ) : Type 0 where
  pub within : n ≤ 2 * link_count t
  pub long : length weights ≡ 64
  pub scaled : ScaledBy t n (λ p. get_or weights p 0)
  pub small : (p : ℕ) → p < port_count t → get_or weights p 0 ≤ most_weight
  pub rest : (p : ℕ) → port_count t ≤ p → get_or weights p 0 ≡ 0

module _ {t : Table} {labels : List ℕ} (formed : WellFormed t) (components : Components t labels) where
  pub scaled_none : {weights : List ℕ} → HasBaseWeights t weights → ScaledSo t 0 weights
  scaled_none b = record {
    within = omega arith;
    long = b.long;
    scaled = scaling_none formed components b.are;
    small = λ p h. b.small p (record { below = h });
    rest = b.rest;
  }

  pub scaled_all : {n : ℕ} {weights : List ℕ} → ScaledSo t n weights → n ≡ 2 * link_count t → HasWeights t weights
  scaled_all s e = record {
    long = s.long;
    are = scaled_weights (rw e at s.scaled);
    small = λ p i. s.small p i.below;
    rest = s.rest;
  }

  -- as many labels as there are ports
  labels_long : length (take (port_count t) labels) ≡ port_count t
  labels_long = length-take-le (port_count t) labels (omega (arith, components.long, formed.few_ports))

  module _ {n : ℕ} {weights : List ℕ} (s : ScaledSo t n weights) (h : n < 2 * link_count t) {l : Link} (is : l ≡ link t (n / 2)) where
    condition_link : n / 2 < link_count t
    condition_link = omega arith

    module _ {count amount : ℕ} (all : count ≡ port_count t) (e : amount ≡ cond (eqb (n % 2) 0) l.events.0 l.events.1) where
      -- the label and the factor of condition n
      abbrev c : ℕ
      c = get_or labels (from t (n / 2)) 0

      abbrev f : ℕ
      f = lacking (δ° t (n / 2)) (amount_of t (n / 2) (n % 2) * get_or weights (from t (n / 2)) 0)

      from_label : get_or (take (port_count t) labels) (from t (n / 2)) 0 ≡ c
      from_label = get_or-take (port_count t) labels (from t (n / 2)) 0 (formed.links (n / 2) condition_link).from

      module _ {weights' : List ℕ} (m : MultipliedTo (take count labels) (length (take count labels)) (get_or (take count labels) l.from 0) (lacking l.over (amount * get_or weights l.from 0)) weights weights') where
        as_condition : MultipliedTo labels (port_count t) c f weights weights'
        as_condition = multiplied_front (rw (all, labels_long, e, is, from_label) at m)

        -- at the ports, and at the zeros past them
        times : (p : ℕ) → get_or weights' p 0 ≡ get_or weights p 0 * cond (eqb (get_or labels p 0) c) f 1
        times p = ⊎_elim
            (λ (low : p < port_count t). as_condition.times p low)
            (λ (high : port_count t ≤ p).
            as_condition.rest p high ∙ omega (arith, s.rest p high, ap (λ (x : ℕ). x * cond (eqb (get_or labels p 0) c) f 1) (s.rest p high)))
            (lt_or_le p (port_count t))

        scaled_on : ScaledSo t (n + 1) weights'
        scaled_on = record {
          within = omega arith;
          long = as_condition.same_length ∙ s.long;
          scaled = scaling_on formed components s.scaled (condition_over formed components h) (condition_port formed components h) times;
          small = as_condition.small;
          rest = λ p high. as_condition.rest p high ∙ s.rest p high;
        }

      scaled_over : Passing (take count labels) (length (take count labels)) (get_or (take count labels) l.from 0) (lacking l.over (amount * get_or weights l.from 0)) weights
          → Overweight t
      scaled_over o =
          let o' : Passing labels (port_count t) c f weights = passing_front (rw (all, labels_long, e, is, from_label) at o) in
          passing formed components (omega arith)
          (scaling_times formed components s.scaled (condition_over formed components h) (condition_port formed components h))
          (record { below = o'.below }) o'.passes

  -- ---- condition 2 k is for the amount forward of link k, 2 k + 1 for the amount back
  module _ {k count over : ℕ} (low : k < link_count t) {l : Link} (is : l ≡ link t k) (all : count ≡ port_count t) (o : over ≡ l.over) where
    -- what the multiplication for an amount made, or found
    abbrev Made : (amount : ℕ) → (weights weights' : List ℕ) → Type 0
    Made amount weights weights' =
        MultipliedTo (take count labels) (length (take count labels)) (get_or (take count labels) l.from 0) (lacking over (amount * get_or weights l.from 0)) weights weights'

    abbrev Found : (amount : ℕ) → (weights : List ℕ) → Type 0
    Found amount weights =
        Passing (take count labels) (length (take count labels)) (get_or (take count labels) l.from 0) (lacking over (amount * get_or weights l.from 0)) weights

    forward_link : l ≡ link t (2 * k / 2)
    forward_link = let half : 2 * k / 2 ≡ k = omega arith in rw half is

    forward_amount : l.events.0 ≡ cond (eqb (2 * k % 2) 0) l.events.0 l.events.1
    forward_amount = let even : 2 * k % 2 ≡ 0 = omega arith in rw even

    back_link : l ≡ link t ((2 * k + 1) / 2)
    back_link = let half : (2 * k + 1) / 2 ≡ k = omega arith in rw half is

    back_amount : l.events.1 ≡ cond (eqb ((2 * k + 1) % 2) 0) l.events.0 l.events.1
    back_amount = let odd : (2 * k + 1) % 2 ≡ 1 = omega arith in rw odd

    pub forward_on : {weights weights' : List ℕ} → ScaledSo t (2 * k) weights → Made l.events.0 weights weights' → ScaledSo t (2 * k + 1) weights'
    forward_on s m = scaled_on s (omega arith) forward_link all forward_amount (rw o at m)

    pub forward_over : {weights : List ℕ} → ScaledSo t (2 * k) weights → Found l.events.0 weights → Overweight t
    forward_over s f = scaled_over s (omega arith) forward_link all forward_amount (rw o at f)

    pub back_on : {weights weights' : List ℕ} → ScaledSo t (2 * k + 1) weights → Made l.events.1 weights weights' → ScaledSo t (2 * (k + 1)) weights'
    back_on s m = let next : 2 * (k + 1) ≡ 2 * k + 1 + 1 = omega arith in rw next (scaled_on s (omega arith) back_link all back_amount (rw o at m))

    pub back_over : {weights : List ℕ} → ScaledSo t (2 * k + 1) weights → Found l.events.1 weights → Overweight t
    back_over s f = scaled_over s (omega arith) back_link all back_amount (rw o at f)
