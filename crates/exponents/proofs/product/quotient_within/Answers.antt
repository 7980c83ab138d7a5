-- The product of the powers before i.
use native.Mathlib.Omega.{arith}
use Rattle.exponents.proofs.product.Bounded.{primes_long, producing_none, producing_factors, producing_on, producing_all, producing_past, producing_rest}
use Rattle.exponents.proofs.product.quotient_within.Goals as goal

pub loop-i-init : goal.loop-i-init
loop-i-init c = producing_none _

pub bounds-row-i : goal.bounds-row-i
bounds-row-i c = omega (arith, primes_long c.requires.all_value)

pub bounds-least-i : goal.bounds-least-i
bounds-least-i c = omega (arith, primes_long c.requires.all_value)

pub times_power-requires : goal.times_power-requires
times_power-requires c =
    producing_factors c.loop-i.invariant (omega (arith, primes_long c.requires.all_value)) c.requires.all_value c.from-prime.ensures

pub returns-in_err-product : goal.returns-in_err-product
returns-in_err-product c =
    rw c.from_residual.ensures
    (producing_past c.loop-i.invariant (omega (arith, primes_long c.requires.all_value)) c.requires.all_value c.from-prime.ensures c.in_err-product.ensures)

pub loop-i-preserved : goal.loop-i-preserved
loop-i-preserved c =
    producing_on c.loop-i.invariant (omega (arith, primes_long c.requires.all_value)) c.requires.all_value c.from-prime.ensures
    c.in_ok-product.ensures

pub returns-after-loop-i : goal.returns-after-loop-i
returns-after-loop-i c =
    (producing_all c.loop-i.invariant (omega (arith, primes_long c.requires.all_value)), c.loop-i.invariant.small)

pub returns-then-most-prime : goal.returns-then-most-prime
returns-then-most-prime c =
    let rest = producing_rest c.loop-i.invariant (omega (arith, primes_long c.requires.all_value)) c.requires.all_value c.from-prime.ensures
    {most = c.args.most} (λ k l h. omega (arith, c.requires.same_above.place k l h)) (omega arith) in
    (rest, c.loop-i.invariant.small)
