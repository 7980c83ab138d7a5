-- A product that is multiplied out up to a bound.
use Prim.Native.Nat.{ℕ, zero, suc, ◌+◌, ◌*◌, ◌-◌, ◌^◌, ◌≤◌, ◌<◌}
use mathlib.Core.Path.{◌≡◌, refl, sym, ap, ◌∙◌}
use mathlib.Core.List.{List}
use native.Mathlib.Nat.{add-zero, add-suc, mul-le-mul_left, mul-le-mul_right, pow-le-pow_right, pow-zero, pow-suc}
use native.Mathlib.Numerals.{add-one}
use native.Mathlib.Omega.{arith}
use lib.ListN.{length, get_or}
use Rattle.numbers.specs.Exponents.{powers}
use Rattle.exponents.specs.Primes.{primes, prime_at, listed, distinct_primes, primes_ascend}
use Rattle.exponents.specs.Product.{Factors}
use Rattle.exponents.specs.Powers.{powers_grow}

-- ---- the powers of one prime
-- product is x times p to the power i
pub record Powered (x p i product : ℕ) : Type 0 where
  pub small : product ≤ 10000
  pub value : product ≡ x * p ^ i

pub powered_none : {x p : ℕ} → Factors x p → Powered x p 0 x
powered_none {x} {p} h = record { small = h.product; value = omega (arith, ap (λ (y : ℕ). x * y) (pow-zero p)) }

module _ {x p i product : ℕ} (h : Factors x p) (s : Powered x p i product) where
  pub powered_room : product * p ≤ 10000000
  powered_room = omega (arith, mul-le-mul_right p s.small, h.prime)

  next_value : product * p ≡ x * p ^ (i + 1)
  next_value = rw (add-one i) (omega (arith, ap (λ (y : ℕ). y * p) s.value, ap (λ (y : ℕ). x * y) (pow-suc p i)))

  pub powered_on : product * p ≤ 10000 → Powered x p (i + 1) (product * p)
  powered_on b = record { small = b; value = next_value }

  -- the powers that follow are no smaller
  pub powered_past : {e : ℕ} → i < e → 10000 < product * p → 10000 < x * p ^ e
  powered_past {e} l b = omega (arith, b, next_value, mul-le-mul_left x (pow-le-pow_right {n = p} h.positive {i = i + 1} {j = e} (omega arith)))

-- ---- the primes one after the other, each to the power that e says
-- the product of the first i powers
pub record Producing (e : ℕ → ℕ) (i product : ℕ) : Type 0 where
  pub passed : i ≤ 168
  pub small : product ≤ 10000
  pub value : product ≡ powers prime_at e i

pub producing_none : (e : ℕ → ℕ) → Producing e 0 1
unfolding powers
producing_none e = record { passed = omega arith; small = omega arith; value = refl }

-- the list of all primes has 168
pub primes_long : {all : List ℕ} → all ≡ primes → length all ≡ 168
unfolding primes
primes_long a = rw a refl

-- an entry of the list of all primes
entry_prime : {all : List ℕ} {p : ℕ} (i : ℕ) → all ≡ primes → p ≡ get_or all i 0 → p ≡ prime_at i
unfolding prime_at
entry_prime i a e = rw a at e

-- the primes from place i on have no exponent
powers_rest : (e : ℕ → ℕ) (i k : ℕ) → ((j : ℕ) → j < k → e (i + j) ≡ 0) → powers prime_at e (i + k) ≡ powers prime_at e i
unfolding powers
powers_rest e i zero none = ap (powers prime_at e) (add-zero i)
powers_rest e i (suc k) none =
    ap (powers prime_at e) (add-suc i k)
    ∙ rw (none k (omega arith), pow-zero (prime_at (i + k))) (omega (arith, powers_rest e i k (λ j h. none j (omega arith))))

module _ {e : ℕ → ℕ} {i product : ℕ} (s : Producing e i product) where
  pub producing_all : i ≡ 168 → product ≡ powers prime_at e 168
  producing_all end = rw end at s.value

  -- the prime at place i is p
  module _ {all : List ℕ} {p : ℕ} (h : i < 168) (a : all ≡ primes) (is : p ≡ get_or all i 0) where
    pub producing_factors : Factors product p
    producing_factors = record {
      product = s.small;
      positive = omega (arith, entry_prime i a is, (listed i h).prime.above_one);
      prime = omega (arith, entry_prime i a is, (listed i h).high);
    }

    next_powers : product * p ^ e i ≡ powers prime_at e (i + 1)
    unfolding powers
    next_powers = rw (add-one i, entry_prime i a is, s.value)

    pub producing_on : {next : ℕ} → (next ≡ product * p ^ e i) × (next ≤ 10000) → Producing e (i + 1) next
    producing_on q = record { passed = omega (arith, h); small = q.1; value = q.0 ∙ next_powers }

    -- the powers that follow are no smaller
    pub producing_past : 10000 < product * p ^ e i → 10000 < powers prime_at e 168
    producing_past b = omega (arith, b, next_powers, powers_grow prime_at e 168 (i + 1) distinct_primes (omega (arith, h)))

    -- no prime from p on has an exponent
    pub producing_rest : {most : ℕ} → ((k : ℕ) → k < 168 → most < prime_at k → e k ≡ 0) → most < p → product ≡ powers prime_at e 168
    producing_rest none high =
        let rest = powers_rest e i (168 - i) (λ j l. none (i + j) (omega arith) (omega (
          arith,
          primes_ascend i j (omega arith),
          entry_prime i a is,
        ))) in
        let end : i + (168 - i) ≡ 168 = omega arith in
        s.value ∙ sym (rw end at rest)
