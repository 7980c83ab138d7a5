-- The first table has the least divisor of each number, which is a prime, and the second the place of each prime.
use native.Mathlib.Omega.{arith}
use borrow.Author.Rules.{rules}
use Rattle.exponents.specs.Divisors.{divisor_least}
use Rattle.exponents.specs.Primes.{place_is}
use Rattle.exponents.specs.Factor.{divisor_high, divisor_factor}
use Rattle.exponents.proofs.tables.FactorTables.prime_factor.Goals as goal

pub bounds-self-from : goal.bounds-self-from
bounds-self-from c =
    omega (arith, divisor_high c.requires.from_two (divisor_least c.args.self.now.lent.divisors_are c.requires.from_two c.from-2.ensures))

pub returns : goal.returns
returns c =
    divisor_factor c.requires.from_two (divisor_least c.args.self.now.lent.divisors_are c.requires.from_two c.from.ensures)
    (place_is _ c.args.self.now.lent.places_are (search rules))
