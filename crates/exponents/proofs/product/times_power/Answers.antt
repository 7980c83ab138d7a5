-- The power so far.
use Rattle.exponents.proofs.product.Bounded.{powered_on, powered_past}
use Rattle.exponents.proofs.product.times_power.Goals as goal

pub returns-then-product-gt-BOUND : goal.returns-then-product-gt-BOUND
returns-then-product-gt-BOUND c = powered_past c.requires c.loop.invariant c.loop-test.true c.if-product-gt-BOUND.true

pub loop-preserved : goal.loop-preserved
loop-preserved c = powered_on c.requires c.loop.invariant c.if-product-gt-BOUND.false
