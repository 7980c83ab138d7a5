-- What working out the weights asks and ends with.
use Rattle.std.specs.Prelude.{ℕ, ◌≤◌, ◌<◌, ◌≡◌, List, get_or, length}
use Rattle.table.specs.WellFormed.{WellFormed}
use Rattle.specification.specs.Table.{Table, port_count, IsPort, IsLink}
use Rattle.specification.specs.Ratios.{Weights, WholeWeights, most_weight}
use Rattle.ways.specs.Labels.{Components}
use Rattle.forest.specs.PortRows.{PortRows, Fits}

-- rows that fit every link
pub record Weighing (t : Table) (labels : List ℕ) (rows : List (List ℕ)) : Type 0 where
  pub well_formed : WellFormed t
  pub components : Components t labels
  pub port_rows : PortRows rows
  pub fits : (k : ℕ) → IsLink t k → Fits t rows k

-- document 01's weights, none above 10,000, and 0 past the ports
pub record HasBaseWeights (t : Table) (weights : List ℕ) : Type 0 where
  pub long : length weights ≡ 64
  pub are : Weights t (λ p. get_or weights p 0)
  pub small : (p : ℕ) → IsPort t p → get_or weights p 0 ≤ most_weight
  pub rest : (p : ℕ) → port_count t ≤ p → get_or weights p 0 ≡ 0

-- one of them passes 10,000
pub record BaseOverweight (t : Table) : Type 0 where
  pub w : ℕ → ℕ
  pub weights : Weights t w
  pub at : ℕ
  pub a_port : IsPort t at
  pub passes : most_weight < w at

-- the weights, which make every δ whole, none above 10,000, and 0 past the ports
pub record HasWeights (t : Table) (weights : List ℕ) : Type 0 where
  pub long : length weights ≡ 64
  pub are : WholeWeights t (λ p. get_or weights p 0)
  pub small : (p : ℕ) → IsPort t p → get_or weights p 0 ≤ most_weight
  pub rest : (p : ℕ) → port_count t ≤ p → get_or weights p 0 ≡ 0

-- 1 for each of so many ports, and 0 past them
pub record Ones (ports : ℕ) (weights : List ℕ) : Type 0 where
  pub long : length weights ≡ 64
  pub one : (p : ℕ) → p < ports → get_or weights p 0 ≡ 1
  pub rest : (p : ℕ) → ports ≤ p → get_or weights p 0 ≡ 0
