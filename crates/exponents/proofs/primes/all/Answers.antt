-- The table is the list of the primes.
use borrow.Author.Rules.{rules}
use Rattle.exponents.specs.Primes.{primes}
use Rattle.exponents.proofs.primes.all.Goals as goal

pub returns : goal.returns
unfolding primes
returns c = search rules
