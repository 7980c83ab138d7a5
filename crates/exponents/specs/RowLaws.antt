-- What a row and the number that it stands for say of each other.
use Rattle.std.specs.Prelude.{ℕ, ◌*◌, ◌-◌, ◌≤◌, ◌<◌, ◌≡◌, List, length, get_or}
use Rattle.std.proofs.Common.{sym, subst, ◌∙◌, arith, ext_get_or}
use Rattle.std.proofs.Math.Nat.{eq_of_mul-eq-mul_right}
use Rattle.std.proofs.Math.Decide.{dec_lt}
use Rattle.numbers.specs.Divisors.{Divides}
use Rattle.numbers.specs.DivisorLaws.{divides_≤}
use Rattle.numbers.specs.Prime.{IsPrime}
use Rattle.numbers.specs.Exponents.{powers, exponents_unique}
use Rattle.exponents.specs.Primes.{prime_at, listed, distinct_primes}
use Rattle.exponents.specs.Row.{row_value, Multiplied, Within, excess}
use Rattle.exponents.specs.Powers.{powers_sum, powers_positive, power_divides, PrimeIn, prime_in_powers}

-- equal numbers have equal rows
pub row_unique : (a b : List ℕ) → length a ≡ 168 → length b ≡ 168 → row_value a ≡ row_value b → a ≡ b
unfolding row_value
row_unique a b la lb e =
    ext_get_or 0 a b (la ∙ sym lb)
    (λ i h. exponents_unique (λ (k : ℕ). get_or a k 0) (λ (k : ℕ). get_or b k 0) distinct_primes e i (omega (arith, la)))

pub row_positive : (row : List ℕ) → 0 < row_value row
unfolding row_value
row_positive row = powers_positive prime_at (λ (k : ℕ). get_or row k 0) 168 distinct_primes

-- a prime divides the number exactly where its exponent is above zero
pub prime_divides : (row : List ℕ) (i : ℕ) → i < 168 → 0 < get_or row i 0 → Divides (prime_at i) (row_value row)
unfolding row_value
prime_divides row i l h = power_divides prime_at (λ (k : ℕ). get_or row k 0) 168 i l h

pub prime_in_row : {q : ℕ} (row : List ℕ) → IsPrime q → Divides q (row_value row) → PrimeIn prime_at (λ i. get_or row i 0) 168 q
unfolding row_value
prime_in_row row h d = prime_in_powers (λ (k : ℕ). get_or row k 0) distinct_primes h d

pub exponent_positive : (row : List ℕ) (i : ℕ) → i < 168 → Divides (prime_at i) (row_value row) → 0 < get_or row i 0
exponent_positive row i l d =
    let found : PrimeIn prime_at (λ (k : ℕ). get_or row k 0) 168 (prime_at i) = prime_in_row row (distinct_primes.prime i l) d in
    let same : found.place ≡ i =
    sym (listed found.place found.below).place ∙ rw found.is (listed i l).place in
    subst (λ (k : ℕ). 0 < get_or row k 0) same found.some

-- the excess over a row times that row is the whole
pub excess_value : (a b : List ℕ) → Within b a → powers prime_at (excess b a) 168 * row_value b ≡ row_value a
unfolding row_value
excess_value a b w =
    sym (powers_sum prime_at (excess b a) (λ (k : ℕ). get_or b k 0) {g = λ k. get_or a k 0} 168 (λ k l. omega (arith, w.place k l)))

-- a prime above n has the exponent that it had
pub multiplied_above : {row r : List ℕ} {n : ℕ} → 1 ≤ n → Multiplied row n r → (i : ℕ) → i < 168 → n < prime_at i
    → get_or r i 0 ≡ get_or row i 0
unfolding row_value
multiplied_above {row} {r} {n} some m i l high = decided (dec_lt (get_or row i 0) (get_or r i 0))
  where
    more : ℕ → ℕ
    more k = get_or r k 0 - get_or row k 0

    is : powers prime_at more 168 ≡ n
    is =
        let sum = powers_sum prime_at more (λ (k : ℕ). get_or row k 0) {g = λ k. get_or r k 0} 168 (λ k b. omega (arith, m.grows k b)) in
        eq_of_mul-eq-mul_right (row_value row) (row_positive row) (powers prime_at more 168) n (sym sum ∙ m.value ∙ omega arith)

    decided : Dec (get_or row i 0 < get_or r i 0) → get_or r i 0 ≡ get_or row i 0
    decided (yes h) =
        let divides : Divides (prime_at i) n = rw is at (power_divides prime_at more 168 i l (omega arith)) in
        absurd (omega (arith, divides_≤ divides (omega arith)))
    decided (no h) = omega (arith, m.grows i l)
