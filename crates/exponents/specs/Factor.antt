-- A prime factor of a number up to 1,000.
use Rattle.std.specs.Prelude.{ℕ, ◌*◌, ◌/◌, ◌≤◌, ◌<◌, ◌≡◌, List}
use Rattle.std.proofs.Common.{arith}
use Rattle.numbers.specs.DivisorLaws.{divides_≤, quotient_is}
use Rattle.numbers.specs.Prime.{Least, DivisorAboveOne, least_divisor_prime}
use Rattle.exponents.specs.Divisors.{FromTwo, least_divisors}
use Rattle.exponents.specs.Primes.{places, prime_at, place_of, Place, prime_place}

-- the two tables that a factor is looked up in
pub record Lent (divisors list : List ℕ) : Type 0 where
  pub divisors_are : divisors ≡ least_divisors
  pub places_are : list ≡ places

-- p is a prime up to 1,000, its place is i, and it divides n
pub record IsFactor (n p i : ℕ) : Type 0 where
  pub low : 2 ≤ p
  pub high : p ≤ 1000
  pub whole : p * (n / p) ≡ n
  pub below : i < 168
  pub prime : prime_at i ≡ p

pub divisor_high : {n p : ℕ} → FromTwo n → Least (DivisorAboveOne n) p → p ≤ 1000
divisor_high h l = omega (arith, h.low, h.high, divides_≤ l.holds.divides (omega (arith, h.low)))

pub divisor_factor : {n p i : ℕ} → FromTwo n → Least (DivisorAboveOne n) p → i ≡ place_of p → IsFactor n p i
divisor_factor {n} {p} {i} h l e =
    let place : Place p i = rw e (prime_place (least_divisor_prime l) (divisor_high h l)) in
    record {
      low = l.holds.above_one;
      high = divisor_high h l;
      whole = quotient_is l.holds.divides;
      below = place.below;
      prime = place.is;
    }
