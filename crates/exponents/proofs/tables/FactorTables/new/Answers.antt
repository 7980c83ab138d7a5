-- The constants are the lists that the definitions spell out.
use borrow.Author.Rules.{rules}
use Rattle.exponents.specs.Divisors.{least_divisors}
use Rattle.exponents.specs.Primes.{places}
use Rattle.exponents.proofs.tables.FactorTables.new.Goals as goal

pub invariant_of-result : goal.invariant_of-result
unfolding least_divisors places
invariant_of-result c = search rules
