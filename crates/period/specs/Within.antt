-- The steps of a cycle.
use Rattle.std.specs.Prelude.{ℕ, ◌≤◌, ◌≡◌, List, length}
use Rattle.rounds.specs.declared.back.Part.{Part}

-- the part lies within the steps
pub record WithinSteps (steps : List ℕ) (part : Part) : Type 0 where
  pub ordered : part.first ≤ part.last
  pub within : part.last ≤ 64
  pub long : length steps ≡ 64
