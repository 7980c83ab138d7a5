-- 0 and 1 are the constants; parts without a common divisor stay; others are divided by their greatest common divisor, which is above zero.
use Rattle.numbers.specs.Gcd.{gcd_positive, gcd_one}
use Rattle.fraction.specs.Lowest.{lowest_terms, lowest_already, lowest_zero, lowest_one}
use Rattle.fraction.proofs.Fraction.reduced.Goals as goal

pub returns-then-num-eq0 : goal.returns-then-num-eq0
returns-then-num-eq0 c = rw (c.if-num-eq0.true, lowest_zero c.requires)

pub returns-then-num-den : goal.returns-then-num-den
returns-then-num-den c = rw (c.if-num-den.true, lowest_one c.requires)

pub returns-then-den-eq1 : goal.returns-then-den-eq1
returns-then-den-eq1 c = rw c.if-den-eq1.true (lowest_already (gcd_one _))

pub nonzero_div-result : goal.nonzero_div-result
nonzero_div-result c = rw c.greatest_common_divisor-g.ensures (gcd_positive _ _ c.requires)

pub nonzero_div-result-2 : goal.nonzero_div-result-2
nonzero_div-result-2 c = rw c.greatest_common_divisor-g.ensures (gcd_positive _ _ c.requires)

pub returns : goal.returns
unfolding lowest_terms
returns c = rw c.greatest_common_divisor-g.ensures
