-- Each turn of the loop stores the four numbers of one edge more.
use native.Mathlib.Omega.{arith}
use Rattle.period.specs.EdgesLaws.{edges_count}
use Rattle.period.proofs.price.Filled.{filled_none, filled_small, filled_on, filled_all}
use borrow.Author.Rules.{rules}
use Rattle.period.proofs.price.price.Goals as goal

pub loop-k-init : goal.loop-k-init
loop-k-init c = filled_none (search (edges_count, rules))

pub delay-cost-requires : goal.delay-cost-requires
delay-cost-requires c = filled_small c.requires c.loop-k.invariant (omega arith) c.edge-edge.ensures

pub loop-k-preserved : goal.loop-k-preserved
loop-k-preserved c = filled_on c.requires c.loop-k.invariant (omega arith) c.edge-edge.ensures c.delay-cost.ensures

pub returns : goal.returns
returns c = filled_all c.loop-k.invariant (omega arith)
