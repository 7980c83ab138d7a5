-- Labels: for each port the lowest port of its component.
use Rattle.std.specs.Prelude.{ℕ, ◌≤◌, ◌<◌, ◌≡◌, List, length, get_or}
use Rattle.specification.specs.Table.{Table, port_count, IsPort}
use Rattle.specification.specs.Ratios.{Component}

pub record Components (t : Table) (labels : List ℕ) : Type 0 where
  pub long : length labels ≡ 64
  pub each : (p : ℕ) → IsPort t p → Component t p (get_or labels p 0)
  pub rest : (p : ℕ) → port_count t ≤ p → p < 64 → get_or labels p 0 ≡ p
