-- The sums are those of the first edges.
use native.Mathlib.Omega.{arith}
use Rattle.table.specs.Slices.{links_of}
use Rattle.period.specs.EdgesLaws.{edges_count}
use Rattle.period.proofs.sums.Summed.{small_edge, summed_none, summed_more, summed_all}
use Rattle.period.proofs.sums.sums_of.Goals as goal

pub loop-i-init : goal.loop-i-init
loop-i-init c = summed_none _ _

pub edge-edge-requires : goal.edge-edge-requires
edge-edge-requires c =
    let graph = c.args.graph.now in
    omega (arith, small_edge c.requires c.loop-i-test.true, edges_count (links_of graph.links.now) graph.weights.now graph.numbers.now)

pub overflow_add-ticks : goal.overflow_add-ticks
overflow_add-ticks c = omega (arith, small_edge c.requires c.loop-i-test.true, c.edge-edge.ensures)

pub overflow_add-ticks-in-loop-i : goal.overflow_add-ticks-in-loop-i
overflow_add-ticks-in-loop-i c = omega (arith, small_edge c.requires c.loop-i-test.true, c.edge-edge.ensures)

pub overflow_add-events : goal.overflow_add-events
overflow_add-events c = omega (arith, small_edge c.requires c.loop-i-test.true, c.edge-edge.ensures)

pub overflow_add-events-in-loop-i : goal.overflow_add-events-in-loop-i
overflow_add-events-in-loop-i c = omega (arith, small_edge c.requires c.loop-i-test.true, c.edge-edge.ensures)

pub loop-i-preserved : goal.loop-i-preserved
loop-i-preserved c = summed_more c.requires c.loop-i.invariant c.loop-i-test.true c.edge-edge.ensures

pub returns : goal.returns
returns c = summed_all c.loop-i.invariant c.loop-i-test.false
