-- The loop that a link closes in the forest, as numbers in a buffer: of each step the link's number and its direction.
use Rattle.std.specs.Prelude.{ℕ, zero, suc, ◌+◌, ◌*◌, ◌≤◌, ◌<◌, ◌≡◌, ◌≢◌, false, List, [], ◌∷◌, map, length, get_or, eqb}
use Rattle.table.specs.WellFormed.{WellFormed}
use Rattle.specification.specs.Table.{Table, IsPort, IsLink, from}
use Rattle.numbers.specs.Lists.{◌∈◌, Distinct}
use Rattle.specification.specs.Ratios.{Step, Way, comes}
use Rattle.ways.specs.Labels.{Components}
use Rattle.forest.specs.Forest.{Forest}

-- the step whose numbers stand at place i, and at the next place: 0 along the link, 1 against it
abbrev pub step_at : List ℕ → ℕ → Step
step_at numbers i = record { number = get_or numbers i 0; against = eqb (get_or numbers (i + 1) 0) 1 }

-- n steps from place i on
unfoldable pub steps_from : List ℕ → ℕ → ℕ → List Step
steps_from numbers i zero = []
steps_from numbers i (suc n) = step_at numbers i ∷ steps_from numbers (i + 2) n

-- what is asked: a forest, and a link over which no port was reached
pub record Closing (t : Table) (labels reach via : List ℕ) (k : ℕ) (numbers : List ℕ) : Type 0 where
  pub well_formed : WellFormed t
  pub components : Components t labels
  pub forest : Forest t labels reach via
  pub a_link : IsLink t k
  pub outside : (p : ℕ) → IsPort t p → get_or labels p 0 ≢ p → get_or via p 0 ≢ k
  pub room : 128 ≤ length numbers

-- the first step is the link, along; the others go over links of the forest; the loop is closed, no port and no link twice
pub record Closed (t : Table) (labels via : List ℕ) (k : ℕ) (numbers : List ℕ) (n : ℕ) : Type 0 where
  pub rest : List Step
  pub steps : steps_from numbers 0 n ≡ record { number = k; against = false } ∷ rest
  pub few : n ≤ 64
  pub way : Way t (from t k) (from t k) (steps_from numbers 0 n)
  pub ports : Distinct (map (comes t) (steps_from numbers 0 n))
  pub links : Distinct (map (λ x. x.number) (steps_from numbers 0 n))
  pub over_forest : (s : ℕ) → s ∈ map (λ x. x.number) rest → (p : ℕ) × IsPort t p × (get_or labels p 0 ≢ p) × (get_or via p 0 ≡ s)
  pub directions : (i : ℕ) → i < n → get_or numbers (2 * i + 1) 0 ≤ 1
