-- Numbers of steps in a list: of each step the link's number and its direction, 0 along the link and 1 against it.
use Rattle.std.specs.Prelude.{ℕ, ◌+◌, ◌≤◌, ◌<◌, ◌≡◌, List, [], ◌∷◌, length, get_or, eqb, Bool, cond}
use Rattle.specification.specs.Ratios.{Step}
use Rattle.forest.specs.Loop.{step_at}

-- the step over a link in a direction
abbrev pub step_of : ℕ → ℕ → Step
step_of link against = record { number = link; against = eqb against 1 }

-- the number for a step's direction
abbrev pub direction : Bool → ℕ
direction against = cond against 1 0

-- room for one step at a place
pub record StepRoom (numbers : List ℕ) (at : ℕ) : Type 0 where
  pub room : at + 1 < length numbers

-- ys is xs with one step's numbers at a place
pub record Put (xs ys : List ℕ) (at link against : ℕ) : Type 0 where
  pub same_length : length ys ≡ length xs
  pub number : get_or ys at 0 ≡ link
  pub direction : get_or ys (at + 1) 0 ≡ against
  pub before : (p : ℕ) → p < at → get_or ys p 0 ≡ get_or xs p 0
  pub behind : (p : ℕ) → at + 1 < p → get_or ys p 0 ≡ get_or xs p 0

-- the numbers of the steps stand from a place on
pub data Stands (xs : List ℕ) : ℕ → List Step → Type 0 where
  none : {at : ℕ} → Stands xs at []
  more : {at : ℕ} {steps : List Step} (s : Step) → step_at xs at ≡ s → get_or xs (at + 1) 0 ≤ 1 → Stands xs (at + 2) steps
      → Stands xs at (s ∷ steps)
