-- A product of powers of distinct primes gives its exponents.
use Rattle.std.specs.Prelude.{ℕ, zero, suc, ◌*◌, ◌^◌, ◌<◌, ◌≡◌, refl, ◌≢◌}
use Rattle.std.proofs.Common.{sym, ap, ◌∙◌, ⊎_elim, eq-or-lt_of_le, le_of_suc-le-suc, lt-suc_self, not-suc-le-zero, one-mul, mul_assoc, mul_comm, arith}
use Rattle.std.proofs.Math.Nat.{eq_of_mul-eq-mul_left, le_step, pow-zero, pow-succ'}
use Rattle.numbers.specs.Divisors.{Divides}
use Rattle.numbers.specs.Prime.{IsPrime, euclid, prime_not_one, prime_in_power, prime_in_prime}

-- p 0 to the power e 0, times p 1 to the power e 1, and so on, n powers in all
unfoldable pub powers : (p e : ℕ → ℕ) → ℕ → ℕ
powers p e zero = 1
powers p e (suc k) = powers p e k * p k ^ e k

-- p 0 to p (n − 1) are primes, no two of them equal
pub record DistinctPrimes (p : ℕ → ℕ) (n : ℕ) : Type 0 where
  pub prime : (k : ℕ) → k < n → IsPrime (p k)
  pub distinct : (j k : ℕ) → j < k → k < n → p j ≢ p k

pub fewer_primes : {p : ℕ → ℕ} {n : ℕ} → DistinctPrimes p (suc n) → DistinctPrimes p n
fewer_primes h = record { prime = λ k l. h.prime k (le_step l); distinct = λ j k i l. h.distinct j k i (le_step l) }

-- a prime that is none of these does not divide the product
pub not_in_powers : {p : ℕ → ℕ} {n q : ℕ} (e : ℕ → ℕ) → DistinctPrimes p n → IsPrime q → ((k : ℕ) → k < n → p k ≢ q)
    → ¬ Divides q (powers p e n)
unfolding powers
not_in_powers {n = zero} e h i f d = prime_not_one i d
not_in_powers {p = p} {n = suc n} e h i f d =
    ⊎_elim (λ l. not_in_powers e (fewer_primes h) i (λ k m. f k (le_step m)) l)
    (λ r. f n (lt-suc_self n) (sym (prime_in_prime i (h.prime n (lt-suc_self n)) (prime_in_power (p n) (e n) i r))))
    (euclid (powers p e n) (p n ^ e n) i d)

-- a power of a prime times what it does not divide: the product gives both
power_unique : {p : ℕ} → IsPrime p → (e f m n : ℕ) → ¬ Divides p m → ¬ Divides p n → p ^ e * m ≡ p ^ f * n → (e ≡ f) × (m ≡ n)
power_unique h zero zero m n a b q = (refl, simp (pow-zero, one-mul) at q)
power_unique {p} h zero (suc f) m n a b q =
    absurd (a (record { quotient = p ^ f * n; is = simp (pow-zero, one-mul, pow-succ', mul_assoc) at q }))
power_unique {p} h (suc e) zero m n a b q =
    absurd (b (record { quotient = p ^ e * m; is = simp (pow-zero, one-mul, pow-succ', mul_assoc) at (sym q) }))
power_unique {p} h (suc e) (suc f) m n a b q =
    let less : (e ≡ f) × (m ≡ n) = power_unique h e f m n a b (eq_of_mul-eq-mul_left p (omega (arith, h.above_one)) (p ^ e * m) (p ^ f * n) (simp (pow-succ', mul_assoc) at q)) in
    (ap suc less.0, less.1)

pub exponents_unique : {p : ℕ → ℕ} {n : ℕ} (e f : ℕ → ℕ) → DistinctPrimes p n → powers p e n ≡ powers p f n → (k : ℕ) → k < n
    → e k ≡ f k
unfolding powers
exponents_unique {n = zero} e f h q k l = absurd (not-suc-le-zero l)
exponents_unique {p = p} {n = suc n} e f h q k l =
    ⊎_elim (λ i. rw i last.0) (λ m. exponents_unique e f (fewer_primes h) last.1 k m) (eq-or-lt_of_le (le_of_suc-le-suc l))
  where
    absent : (g : ℕ → ℕ) → ¬ Divides (p n) (powers p g n)
    absent g = not_in_powers g (fewer_primes h) (h.prime n (lt-suc_self n)) (λ j m. h.distinct j n m (lt-suc_self n))

    last : (e n ≡ f n) × (powers p e n ≡ powers p f n)
    last =
        power_unique (h.prime n (lt-suc_self n)) (e n) (f n) (powers p e n) (powers p f n) (absent e) (absent f)
        (mul_comm (p n ^ e n) (powers p e n) ∙ q ∙ mul_comm (powers p f n) (p n ^ f n))
