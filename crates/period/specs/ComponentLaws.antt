-- What the lists of a component have, each part by itself.
use Rattle.std.specs.Prelude.{ℕ, List, []}
use Rattle.period.specs.Component.{graph_of, SmallEdges, Component}
use Rattle.period.specs.Limited.{Limited}

module _ {ports limits edges : List ℕ} (c : Component ports limits edges) where
  -- its ports have what the greatest limit asks
  pub limited : Limited ports limits
  limited = record {
    low_ports = c.low_ports;
    small = record {
      rated = c.small_limits.rated;
      unrated = c.small_limits.unrated;
      num_most = c.small_limits.num_most;
      den_most = c.small_limits.den_most;
    };
  }

  -- its edges are small, whatever its ports
  pub component_edges : SmallEdges (graph_of [] [] edges)
  component_edges = record {
    ticks_forward_lem = c.small_edges.ticks_forward_lem;
    ticks_back_lem = c.small_edges.ticks_back_lem;
    events_forward = c.small_edges.events_forward;
    events_back = c.small_edges.events_back;
  }
