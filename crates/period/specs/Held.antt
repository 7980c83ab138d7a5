-- The limits and edges of a component, as they stand in a table's slices.
use Rattle.std.specs.Prelude.{ℕ, List}
use Rattle.table.specs.Slices.{ports_of, links_of}
use Rattle.period.specs.Edges.{limits_of, edges_of}
use Rattle.period.specs.declared.constraint_graph.ConstraintGraph.{ConstraintGraph}

abbrev pub limits_in : ConstraintGraph → List ℕ
limits_in g = limits_of (ports_of g.ports.now) g.weights.now

abbrev pub edges_in : ConstraintGraph → List ℕ
edges_in g = edges_of (links_of g.links.now) g.weights.now g.numbers.now
