-- The weights of change request F-6: document 01's, scaled by two conditions for each link of a table.
use Rattle.std.specs.Prelude.{ℕ, zero, suc, ◌+◌, ◌*◌, ◌-◌, ◌/◌, ◌%◌, ◌≤◌, ◌<◌, ◌≡◌, ◌↔◌, cond, List, eqb}
use Rattle.std.proofs.Common.{ap, le_antisymm, mul-pos, arith, eq-eqb, ne_eqb}
use Rattle.std.proofs.Math.Nat.{eq_of_mul-eq-mul_right}
use Rattle.std.proofs.Math.Decide.{ℕ_discrete}
use Rattle.numbers.specs.Divisors.{Divides}
use Rattle.numbers.specs.DivisorLaws.{divides_≤, divides_times, divides_all_one}
use Rattle.table.specs.WellFormed.{WellFormed}
use Rattle.specification.specs.Table.{Table, link_count, IsPort, IsLink, from, δ⁺, δ⁻, δ°}
use Rattle.specification.specs.Ratios.{Joined, Weights, weighed⁺, weighed⁻, WholeAt, AllWhole, WholeWeights}
use Rattle.specification.specs.Meaning.{AllEventsWhole}
use Rattle.ways.specs.Labels.{Components}
use Rattle.ways.specs.WeightLaws.{joined_proportion}
use Rattle.ways.specs.Scaling.{Whole, WholeBelow, Scaling, weights_divide, scaling_none, scaling_times}

pub whole_unique : {t : Table} {w v : ℕ → ℕ} → WholeWeights t w → WholeWeights t v → (p : ℕ) → IsPort t p → w p ≡ v p
whole_unique {w = w} {v = v} h k p i =
    le_antisymm (h.smallest v k.proportional k.whole p i) (k.smallest w h.proportional h.whole p i)

-- ---- whole δ
-- a whole δ is whole at every weight
events_whole : {t : Table} → AllEventsWhole t → (w : ℕ → ℕ) → AllWhole t w
events_whole {t} h w = record {
  each = λ k i. record { forward = divides_times (w (from t k)) (h.forward k i); back = divides_times (w (from t k)) (h.back k i) };
}

-- where every δ is whole, the weights are document 01's
pub whole_weights : {t : Table} {w : ℕ → ℕ} → AllEventsWhole t → Weights t w ↔ WholeWeights t w
whole_weights {w = w} whole = (
  λ h. record { proportional = h.proportional; whole = events_whole whole w; smallest = λ v k a p i. h.smallest v k p i },
  λ h. record { proportional = h.proportional; smallest = λ v k p i. h.smallest v k (events_whole whole v) p i },
)

-- a denominator of 1 divides all
pub units_whole : {t : Table} → ((k : ℕ) → IsLink t k → δ° t k ≡ 1) → AllEventsWhole t
units_whole one = record { forward = λ k i. rw (one k i) (divides_all_one _); back = λ k i. rw (one k i) (divides_all_one _) }

-- ---- the conditions: number 2 k is for the amount forward of link k, 2 k + 1 for the amount back
abbrev pub amount_of : Table → (k side : ℕ) → ℕ
amount_of t k side = cond (eqb side 0) (δ⁺ t k) (δ⁻ t k)

-- the weights after n conditions
abbrev pub ScaledBy : Table → ℕ → (ℕ → ℕ) → Type 0
ScaledBy t n w = Scaling t (λ i. δ° t (i / 2)) (λ i. amount_of t (i / 2) (i % 2)) (λ i. from t (i / 2)) n w

abbrev Conditions : Table → ℕ → (ℕ → ℕ) → Type 0
Conditions t n w = WholeBelow t (λ i. δ° t (i / 2)) (λ i. amount_of t (i / 2) (i % 2)) (λ i. from t (i / 2)) n w

abbrev Condition : Table → ℕ → (ℕ → ℕ) → Type 0
Condition t i w = Whole t (λ j. δ° t (j / 2)) (λ j. amount_of t (j / 2) (j % 2)) (λ j. from t (j / 2)) w i

module _ {t : Table} {w : ℕ → ℕ} where
  forward_of_lem : (i k : ℕ) → i / 2 ≡ k → i % 2 ≡ 0 → Condition t i w → Divides (δ° t k) (weighed⁺ t w k)
  forward_of_lem i k h e c = rw (← h) (rw (eq-eqb (i % 2) 0 e) at c.divides)

  back_of_lem : (i k : ℕ) → i / 2 ≡ k → i % 2 ≡ 1 → Condition t i w → Divides (δ° t k) (weighed⁻ t w k)
  back_of_lem i k h e c = rw (← h) (rw (ne_eqb (i % 2) 0 (λ z. omega arith)) at c.divides)

  conditions_links : Conditions t (2 * link_count t) w → AllWhole t w
  conditions_links b = record {
    each = λ k i. record {
      forward = forward_of_lem (2 * k) k (omega arith) (omega arith) (b.each (2 * k) (omega (arith, i.below)));
      back = back_of_lem (2 * k + 1) k (omega arith) (omega arith) (b.each (2 * k + 1) (omega (arith, i.below)));
    };
  }

  condition : (i : ℕ) → WholeAt t w (i / 2) → Dec (i % 2 ≡ 0) → Condition t i w
  condition i h (yes e) = record { divides = rw (eq-eqb (i % 2) 0 e) h.forward }
  condition i h (no n) = record { divides = rw (ne_eqb (i % 2) 0 n) h.back }

  links_conditions : AllWhole t w → (n : ℕ) → n ≤ 2 * link_count t → Conditions t n w
  links_conditions a n few = record {
    each = λ i h. condition i (a.each (i / 2) (record { below = omega arith })) (ℕ_discrete (i % 2) 0);
  }

-- after all conditions they are the weights
pub scaled_weights : {t : Table} {w : ℕ → ℕ} → ScaledBy t (2 * link_count t) w → WholeWeights t w
scaled_weights {t} s = record {
  proportional = s.proportional;
  whole = conditions_links s.whole;
  smallest = λ v k a p i. divides_≤ (s.divides v k (links_conditions a (2 * link_count t) (omega arith)) p i) (k.positive p i);
}

-- after some they divide the weights: what passes a bound now passes it in the end
pub scaled_divides : {t : Table} {n : ℕ} {w v : ℕ → ℕ} {p : ℕ} → ScaledBy t n w → n ≤ 2 * link_count t → WholeWeights t v → IsPort t p → w p ≤ v p
scaled_divides {n = n} {v = v} {p = p} s few l i =
    divides_≤ (s.divides v l.proportional (links_conditions l.whole n few) p i) (l.proportional.positive p i)

module _ {t : Table} {labels : List ℕ} (formed : WellFormed t) (components : Components t labels) where
  -- what a condition asks
  pub condition_over : {n : ℕ} → n < 2 * link_count t → 0 < δ° t (n / 2)
  condition_over {n} h = (formed.links (n / 2) (omega arith)).over_least

  pub condition_port : {n : ℕ} → n < 2 * link_count t → IsPort t (from t (n / 2))
  condition_port {n} h = record { below = (formed.links (n / 2) (omega arith)).from }

  -- ---- the conditions can always be gone through to the end
  scaled_rest : {n : ℕ} {w : ℕ → ℕ} (m : ℕ) → n + m ≡ 2 * link_count t → ScaledBy t n w → (v : ℕ → ℕ) × WholeWeights t v
  scaled_rest {n} {w} zero e s = let all : n ≡ 2 * link_count t = omega arith in (w, scaled_weights (rw all at s))
  scaled_rest {n} (suc m) e s =
      scaled_rest {n = n + 1} m (omega arith) (scaling_times formed components s (condition_over (omega arith)) (condition_port (omega arith)))

  pub scaled_end : {n : ℕ} {w : ℕ → ℕ} → n ≤ 2 * link_count t → ScaledBy t n w → (v : ℕ → ℕ) × WholeWeights t v
  scaled_end {n} h s = scaled_rest (2 * link_count t - n) (omega arith) s

  -- so there are weights where document 01's are
  pub whole_exist : {w : ℕ → ℕ} → Weights t w → (v : ℕ → ℕ) × WholeWeights t v
  whole_exist least = scaled_end (omega arith) (scaling_none formed components least)

  -- they are document 01's times one factor for each component
  pub whole_factor : {b w : ℕ → ℕ} {p q : ℕ} → Weights t b → WholeWeights t w → IsPort t p → IsPort t q → Joined t p q
      → (f : ℕ) × (w p ≡ b p * f) × (w q ≡ b q * f)
  whole_factor {b} {w} {p} {q} base whole i k j =
      let one = weights_divide formed components base whole.proportional i in
      let other = weights_divide formed components base whole.proportional k in
      let same : other.quotient ≡ one.quotient =
      eq_of_mul-eq-mul_right (b p * b q) (mul-pos (base.proportional.positive p i) (base.proportional.positive q k)) other.quotient one.quotient
      (omega (
        arith,
        joined_proportion base.proportional whole.proportional formed j,
        ap (λ (x : ℕ). b p * x) other.is,
        ap (λ (x : ℕ). x * b q) one.is,
      )) in
      (one.quotient, one.is, omega (arith, other.is, ap (λ (x : ℕ). b q * x) same))
