-- The calls that take one case of an input each.
use Rattle.std.specs.Prelude.{ℕ, ◌≤◌, cond, ltb, List, [], ◌∷◌, ◌++◌, Option, Some, None, replicate}
use Rattle.std.specs.List.{FoldsTo}

-- more are not read
abbrev pub most_cases : ℕ
most_cases = 100000

-- what the calls give where n cases are found: a case each, then none; after the most there is no call more
abbrev pub answers : ℕ → List (Option (Unit {0}))
answers n = replicate n (Some tt) ++ cond (ltb n most_cases) (None ∷ []) []

-- calls in a row gave that, from this state of the closure on
pub record CalledToEnd {F : Type 0} (step : F → Option (Unit {0}) → F → Type 0) (first : F) : Type 0 where
  pub count : ℕ
  pub few : count ≤ most_cases
  pub last : F
  pub called : FoldsTo step first (answers count) last
