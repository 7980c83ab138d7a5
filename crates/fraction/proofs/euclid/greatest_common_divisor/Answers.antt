-- The greatest common divisor of the two numbers stays, and the second falls.
use mathlib.Core.Path.{◌≡◌, sym, ap, ◌∙◌}
use native.Mathlib.Omega.{arith}
use native.Mathlib.Nat.{mod-lt}
use borrow.Author.Rules.{rules}
use Rattle.numbers.specs.Divisors.{gcd}
use Rattle.numbers.specs.Gcd.{gcd_zero, gcd_rest}
use Rattle.fraction.proofs.euclid.greatest_common_divisor.Goals as goal

pub loop-y-smaller : goal.loop-y-smaller
loop-y-smaller c = mod-lt c.loop-y.x (search rules)

pub loop-y-preserved : goal.loop-y-preserved
loop-y-preserved c = sym (gcd_rest c.loop-y.x c.loop-y.y) ∙ c.loop-y.invariant

pub returns : goal.returns
returns c =
    let e : c.loop-y.y ≡ 0 = omega arith in
    sym (gcd_zero c.loop-y.x) ∙ ap (gcd c.loop-y.x) (sym e) ∙ c.loop-y.invariant
