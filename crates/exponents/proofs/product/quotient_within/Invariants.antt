-- The product of the powers before i.
use Rattle.exponents.specs.Row.{excess}
use Rattle.exponents.proofs.product.Bounded.{Producing}
use Rattle.exponents.proofs.product.quotient_within.Given as goal

abbrev pub invariant-loop-i : goal.invariant-loop-i
invariant-loop-i l = Producing (excess l.least l.row) l.i l.product
