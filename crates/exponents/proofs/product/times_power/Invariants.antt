-- The power so far.
use Rattle.exponents.proofs.product.Bounded.{Powered}
use Rattle.exponents.proofs.product.times_power.Given as goal

abbrev pub invariant-loop : goal.invariant-loop
invariant-loop l = Powered l.x l.p l.counter l.product
