-- The greatest common divisor of the two numbers stays, and the second falls.
use mathlib.Core.Path.{◌≡◌}
use Rattle.numbers.specs.Divisors.{gcd}
use Rattle.fraction.proofs.euclid.greatest_common_divisor.Given as goal

abbrev pub invariant-loop-y : goal.invariant-loop-y
invariant-loop-y l = gcd l.x l.y ≡ gcd l.a l.b

abbrev pub decreases-loop-y : goal.decreases-loop-y
decreases-loop-y l = l.y
