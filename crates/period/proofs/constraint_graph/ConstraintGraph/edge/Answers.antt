-- The amounts of events fit when they are weighed and divided.
use Rattle.period.proofs.edge.Read.{read_forward, read_back, read_edge}
use Rattle.period.proofs.constraint_graph.ConstraintGraph.edge.Goals as goal

pub weighed-requires : goal.weighed-requires
weighed-requires c =
    let graph = c.args.self.now in
    rw c.from-over.ensures (read_forward _ graph.readable graph.small_edges c.requires c.link-link.ensures.whole)

pub weighed-requires-2 : goal.weighed-requires-2
weighed-requires-2 c =
    let graph = c.args.self.now in
    rw c.from-over.ensures (read_back _ graph.readable graph.small_edges c.requires c.link-link.ensures.whole)

pub returns : goal.returns
returns c =
    let graph = c.args.self.now in
    let forward = rw c.from-over.ensures at c.weighed.ensures in
    let back = rw c.from-over.ensures at c.weighed-2.ensures in
    read_edge _ graph.readable graph.small_edges c.requires c.link-link.ensures.whole forward back
