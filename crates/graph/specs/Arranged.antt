-- A table with its components and weights, and the ports and connections of each component.
use Rattle.std.specs.Prelude.{ℕ, ◌≡◌, List, length, take}
use Rattle.table.specs.WellFormed.{WellFormed}
use Rattle.specification.specs.Table.{Table, port_count, link_count}
use Rattle.ways.specs.Labels.{Components}
use Rattle.weights.specs.Weighed.{HasWeights}
use Rattle.order.specs.Order.{keyed, most_keyed}
use Rattle.graph.specs.Owners.{owners_of}

-- a table with its components and weights
pub record Labelled (t : Table) (labels weights : List ℕ) : Type 0 where
  pub well_formed : WellFormed t
  pub components : Components t labels
  pub weighed : HasWeights t weights

-- the keys of the ports: their labels
abbrev pub labels_of : Table → List ℕ → List ℕ
labels_of t labels = take (port_count t) labels

-- the most ports of one component
abbrev pub most_members : Table → List ℕ → ℕ
most_members t labels = most_keyed (labels_of t labels) (length (labels_of t labels)) (port_count t)

-- the keys of the links: their owners
abbrev pub link_owners : Table → List ℕ → List ℕ
link_owners t labels = owners_of t labels (link_count t)

-- the ports of component c, and its connections by their numbers
pub record SlicesIn (t : Table) (labels : List ℕ) (c : ℕ) (members numbers : List ℕ) : Type 0 where
  pub members_are : members ≡ keyed (labels_of t labels) c (length (labels_of t labels))
  pub numbers_are : numbers ≡ keyed (link_owners t labels) c (length (link_owners t labels))
