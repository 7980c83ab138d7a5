-- A space that an input was read into.
use Rattle.std.specs.Prelude.{ℕ, ◌≤◌, ◌<◌, List, length}
use Rattle.input.specs.Input.{most_bytes}
use Rattle.input.specs.declared.Input.{Input}

-- an input was read into this space, which holds a byte more than is taken, so that a longer one shows
pub record ReadInto (space : List ℕ) (read : Input) : Type 0 where
  pub room : most_bytes < length space
  pub within : read.count ≤ length space
