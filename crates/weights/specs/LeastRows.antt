-- For each component the least exponent of each prime among its ports' rows.
use Rattle.std.specs.Prelude.{ℕ, ◌<◌, ◌≡◌, List, length, get_or}
use Rattle.exponents.specs.Row.{Within}
use Rattle.table.specs.WellFormed.{WellFormed}
use Rattle.specification.specs.Table.{Table, IsPort}
use Rattle.ways.specs.Labels.{Components}
use Rattle.forest.specs.PortRows.{row_of}

module _ (t : Table) (labels : List ℕ) (rows : List (List ℕ)) where
  -- what the least rows are taken of: the ports by component, and 64 rows of 168 places
  pub record LabelledRows : Type 0 where
    pub well_formed : WellFormed t
    pub components : Components t labels
    pub all : length rows ≡ 64
    pub each : (p : ℕ) → p < 64 → length (row_of rows p) ≡ 168

  -- a port of the component c whose exponent at place i is x
  pub record Attained (c i x : ℕ) : Type 0 where
    pub at : ℕ
    pub a_port : IsPort t at
    pub label : get_or labels at 0 ≡ c
    pub is : get_or (row_of rows at) i 0 ≡ x

  -- the row of r at each component's lowest port: at most the row of each port below n, and each exponent that of some port
  pub record LeastRows (n : ℕ) (r : List (List ℕ)) : Type 0 where
    pub long : length r ≡ 64
    pub each : (c : ℕ) → c < 64 → length (row_of r c) ≡ 168
    pub least : (p : ℕ) → p < n → Within (row_of r (get_or labels p 0)) (row_of rows p)
    pub attained : (p i : ℕ) → IsPort t p → i < 168 → Attained (get_or labels p 0) i (get_or (row_of r (get_or labels p 0)) i 0)
