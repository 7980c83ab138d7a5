-- Ratios along ways, components, numbers 13 and 14, and weights.
use Rattle.std.specs.Prelude.{ℕ, ◌*◌, ◌≤◌, ◌<◌, Bool, cond, ◌≡◌, List, [], ◌∷◌, map}
use Rattle.numbers.specs.Divisors.{Divides}
use Rattle.numbers.specs.Lists.{Distinct}
use Rattle.specification.specs.Table.{Table, IsPort, IsLink, from, to, num, den, δ⁺, δ⁻, δ°}

-- the most of a weight
abbrev pub most_weight : ℕ
most_weight = 10000

-- one link walked, along its arrow or against it
pub record Step : Type 0 where
  pub number : ℕ
  pub against : Bool

module _ (t : Table) where
  -- the ports where a step starts and ends
  abbrev pub leaves : Step → ℕ
  leaves s = cond s.against (to t s.number) (from t s.number)

  abbrev pub comes : Step → ℕ
  comes s = cond s.against (from t s.number) (to t s.number)

  -- consecutive steps. "Way" is this project's word: a walk with direction ignored
  pub data Way : ℕ → ℕ → List Step → Type 0 where
    stay : {p : ℕ} → Way p p []
    walk : {q : ℕ} {path : List Step} (s : Step) → IsLink t s.number → Way (comes s) q path → Way (leaves s) q (s ∷ path)

  -- the ratio of a way is above / below: the product of its links' ratios, inverted where walked against
  abbrev pub above : List Step → ℕ
  above [] = 1
  above (s ∷ path) = cond s.against (den t s.number) (num t s.number) * above path

  abbrev pub below : List Step → ℕ
  below [] = 1
  below (s ∷ path) = cond s.against (num t s.number) (den t s.number) * below path

  pub record Joined (p q : ℕ) : Type 0 where
    pub path : List Step
    pub way : Way p q path

  -- c is the lowest port that p is joined to; it names p's component
  pub record Component (p c : ℕ) : Type 0 where
    pub joined : Joined p c
    pub lowest : (q : ℕ) → Joined p q → c ≤ q

  -- a port that names its component
  pub record IsComponent (c : ℕ) : Type 0 where
    pub a_port : IsPort t c
    pub lowest : Component c c

  -- number 13: a closed way whose ratios' product is not 1; no port twice, no link twice
  pub record DisagreeingLoop (loop : List Step) : Type 0 where
    pub at : ℕ
    pub way : Way at at loop
    pub ports : Distinct (map comes loop)
    pub links : Distinct (map (λ s. s.number) loop)
    pub unequal : ¬ (above loop ≡ below loop)

  -- whole numbers that stand to each other as the periods, by (1): the receiver's period is the sender's divided by the ratio
  pub record Proportional (w : ℕ → ℕ) : Type 0 where
    pub positive : (p : ℕ) → IsPort t p → 0 < w p
    pub fits : (k : ℕ) → IsLink t k → w (to t k) * num t k ≡ w (from t k) * den t k

  -- document 01's weights: the smallest whole numbers in proportion, whatever δ is
  pub record Weights (w : ℕ → ℕ) : Type 0 where
    pub proportional : Proportional w
    pub smallest : (v : ℕ → ℕ) → Proportional v → (p : ℕ) → IsPort t p → w p ≤ v p

  -- δ of link k times the weight that it leaves, forward and back: each is over δ°
  abbrev pub weighed⁺ : (ℕ → ℕ) → ℕ → ℕ
  weighed⁺ w k = δ⁺ t k * w (from t k)

  abbrev pub weighed⁻ : (ℕ → ℕ) → ℕ → ℕ
  weighed⁻ w k = δ⁻ t k * w (from t k)

  -- it is whole. Of each δ that was read one amount is zero; a buffer has no δ, both its amounts are zero
  pub record WholeAt (w : ℕ → ℕ) (k : ℕ) : Type 0 where
    pub forward : Divides (δ° t k) (weighed⁺ w k)
    pub back : Divides (δ° t k) (weighed⁻ w k)

  pub record AllWhole (w : ℕ → ℕ) : Type 0 where
    pub each : (k : ℕ) → IsLink t k → WholeAt w k

  -- the weights: the smallest whole numbers in proportion for which every δ times the weight that it leaves is whole (change request F-6)
  pub record WholeWeights (w : ℕ → ℕ) : Type 0 where
    pub proportional : Proportional w
    pub whole : AllWhole w
    pub smallest : (v : ℕ → ℕ) → Proportional v → AllWhole v → (p : ℕ) → IsPort t p → w p ≤ v p

  -- the weights, none above 10,000
  pub record SmallWeights (w : ℕ → ℕ) : Type 0 where
    pub weights : WholeWeights w
    pub small : (p : ℕ) → IsPort t p → w p ≤ most_weight

  -- number 14: some weight passes 10,000
  pub record Overweight : Type 0 where
    pub w : ℕ → ℕ
    pub weights : WholeWeights w
    pub at : ℕ
    pub a_port : IsPort t at
    pub passes : most_weight < w at
