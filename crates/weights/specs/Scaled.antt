-- The weights of one label times a factor, and which weights can be scaled.
use Rattle.std.specs.Prelude.{ℕ, ◌*◌, ◌≤◌, ◌<◌, ◌≡◌, cond, List, eqb, length, get_or}
use Rattle.specification.specs.Table.{Table, IsLink, δ°, most_over, most_events}
use Rattle.specification.specs.Ratios.{most_weight}

-- every denominator is 1
pub record AllUnits (t : Table) : Type 0 where
  pub one : (k : ℕ) → IsLink t k → δ° t k ≡ 1

-- weights of at most 64 ports, of which the labels are given, that can be multiplied
pub record Multiplying (weights labels : List ℕ) (f : ℕ) : Type 0 where
  pub long : length weights ≡ 64
  pub few : length labels ≤ 64
  pub small : (p : ℕ) → p < length labels → get_or weights p 0 ≤ most_weight
  pub small_factor : f ≤ most_over

-- the weights after the ports below n were multiplied, those of label c by f
pub record MultipliedTo (labels : List ℕ) (n c f : ℕ) (weights weights' : List ℕ) : Type 0 where
  pub same_length : length weights' ≡ length weights
  pub times : (p : ℕ) → p < n → get_or weights' p 0 ≡ get_or weights p 0 * cond (eqb (get_or labels p 0) c) f 1
  pub small : (p : ℕ) → p < n → get_or weights' p 0 ≤ most_weight
  pub rest : (p : ℕ) → n ≤ p → get_or weights' p 0 ≡ get_or weights p 0

-- some port's weight, multiplied so, passes 10,000
pub record Passing (labels : List ℕ) (n c f : ℕ) (weights : List ℕ) : Type 0 where
  pub at : ℕ
  pub below : at < n
  pub passes : most_weight < get_or weights at 0 * cond (eqb (get_or labels at 0) c) f 1

-- what one condition asks
pub record Scalable (weights labels : List ℕ) (from amount over : ℕ) : Type 0 where
  pub long : length weights ≡ 64
  pub few : length labels ≤ 64
  pub small : (p : ℕ) → p < length labels → get_or weights p 0 ≤ most_weight
  pub a_port : from < length labels
  pub over_least : 0 < over
  pub over_most : over ≤ most_over
  pub amount_most : amount ≤ most_events * over
