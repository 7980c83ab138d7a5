-- Products of prime powers: how they change with their exponents, and what divides them.
use Prim.Native.Nat.{ℕ, zero, suc, ◌+◌, ◌*◌, ◌^◌, ◌≤◌, ◌<◌}
use Rattle.std.specs.Prelude.{◌≡◌, ◌≢◌}
use Rattle.std.proofs.Math.Path.{refl, ap, ap₂}
use Rattle.std.proofs.Common.{sym, ◌∙◌, eq-or-lt_of_le, le_of_suc-le-suc, lt-suc_self, not-suc-le-zero}
use Rattle.std.proofs.Math.Logic.{⊎_elim}
use Rattle.std.proofs.Math.Nat.{le_step, one-le-pow, pow-zero, pow-suc, mul-le-mul, le_refl, le_trans}
use Rattle.std.proofs.Math.Pow.{pow-add}
use Rattle.std.proofs.Math.Numerals.{add-one}
use native.Mathlib.Omega.{arith}
use Rattle.numbers.specs.Divisors.{Divides}
use Rattle.numbers.specs.DivisorLaws.{divides_times}
use Rattle.numbers.specs.Prime.{IsPrime, euclid, prime_not_one, prime_in_power, prime_in_prime}
use Rattle.numbers.specs.Exponents.{powers, DistinctPrimes, fewer_primes}

module _ (p : ℕ → ℕ) where
  pub powers_same : {e f : ℕ → ℕ} (n : ℕ) → ((k : ℕ) → k < n → e k ≡ f k) → powers p e n ≡ powers p f n
  unfolding powers
  powers_same zero h = refl
  powers_same (suc n) h =
      ap₂ (λ (x y : ℕ). x * p n ^ y) (powers_same n (λ k l. h k (le_step l))) (h n (lt-suc_self n))

  pub powers_sum : (e f : ℕ → ℕ) {g : ℕ → ℕ} (n : ℕ) → ((k : ℕ) → k < n → g k ≡ e k + f k) → powers p g n ≡ powers p e n * powers p f n
  unfolding powers
  powers_sum e f zero h = refl
  powers_sum e f {g} (suc n) h =
      let rest : powers p g n ≡ powers p e n * powers p f n = powers_sum e f n (λ k l. h k (le_step l)) in
      let last : p n ^ g n ≡ p n ^ e n * p n ^ f n = ap (λ (x : ℕ). p n ^ x) (h n (lt-suc_self n)) ∙ pow-add (p n) (e n) (f n) in
      ap₂ (λ (x y : ℕ). x * y) rest last ∙ omega arith

  -- one exponent raised by one
  pub powers_raised : {e f : ℕ → ℕ} (n i : ℕ) → i < n → f i ≡ e i + 1 → ((k : ℕ) → k ≢ i → f k ≡ e k)
      → powers p f n ≡ powers p e n * p i
  unfolding powers
  powers_raised zero i l h o = absurd (not-suc-le-zero l)
  powers_raised {e} {f} (suc n) i l h o =
      ⊎_elim
      (λ q.
      let same : powers p f n ≡ powers p e n = powers_same n (λ k m. o k (λ r. omega (arith, m, r, q))) in
      let last : p n ^ f n ≡ p n ^ e n * p n = ap (λ (x : ℕ). p n ^ x) (rw q at h ∙ add-one (e n)) ∙ pow-suc (p n) (e n) in
      ap₂ (λ (x y : ℕ). x * y) same last ∙ omega (arith, ap (λ (x : ℕ). powers p e n * p n ^ e n * p x) q))
      (λ m.
      let rest : powers p f n ≡ powers p e n * p i = powers_raised n i m h o in
      let last : p n ^ f n ≡ p n ^ e n = ap (λ (x : ℕ). p n ^ x) (o n (λ r. omega (arith, m, r))) in
      ap₂ (λ (x y : ℕ). x * y) rest last ∙ omega arith)
      (eq-or-lt_of_le (le_of_suc-le-suc l))

  pub powers_positive : (e : ℕ → ℕ) (n : ℕ) → DistinctPrimes p n → 0 < powers p e n
  unfolding powers
  powers_positive e zero h = omega arith
  powers_positive e (suc n) h =
      mul-le-mul (powers_positive e n (fewer_primes h)) (one-le-pow (e n) (p n) (omega (arith, (h.prime n (lt-suc_self n)).above_one)))

  pub powers_grow : (e : ℕ → ℕ) (n i : ℕ) → DistinctPrimes p n → i ≤ n → powers p e i ≤ powers p e n
  unfolding powers
  powers_grow e zero zero h l = le_refl (powers p e zero)
  powers_grow e zero (suc i) h l = absurd (not-suc-le-zero l)
  powers_grow e (suc n) i h l =
      ⊎_elim (λ q. rw q (le_refl (powers p e (suc n))))
      (λ m.
      le_trans (powers_grow e n i (fewer_primes h) (le_of_suc-le-suc m))
      (omega
      (arith, mul-le-mul (le_refl (powers p e n)) (one-le-pow (e n) (p n) (omega (arith, (h.prime n (lt-suc_self n)).above_one))))))
      (eq-or-lt_of_le l)

  -- a prime with an exponent above zero divides the product
  pub power_divides : (e : ℕ → ℕ) (n i : ℕ) → i < n → 0 < e i → Divides (p i) (powers p e n)
  unfolding powers
  power_divides e zero i l h = absurd (not-suc-le-zero l)
  power_divides e (suc n) i l h =
      ⊎_elim (λ q. rw q (in_last (e n) (rw q at h))) (λ m. divides_times (p n ^ e n) (power_divides e n i m h))
      (eq-or-lt_of_le (le_of_suc-le-suc l))
    where
      in_last : (x : ℕ) → 0 < x → Divides (p n) (powers p e n * p n ^ x)
      in_last zero k = absurd (not-suc-le-zero k)
      in_last (suc x) k = record { quotient = powers p e n * p n ^ x; is = omega (arith, ap (λ (y : ℕ). powers p e n * y) (pow-suc (p n) x)) }

-- q is the prime at a place whose exponent is above zero
pub record PrimeIn (p e : ℕ → ℕ) (n q : ℕ) : Type 0 where
  pub place : ℕ
  pub below : place < n
  pub is : p place ≡ q
  pub some : 0 < e place

pub prime_in_powers : {p : ℕ → ℕ} {n q : ℕ} (e : ℕ → ℕ) → DistinctPrimes p n → IsPrime q → Divides q (powers p e n)
    → PrimeIn p e n q
unfolding powers
prime_in_powers {n = zero} e h i d = absurd (prime_not_one i d)
prime_in_powers {p} {n = suc n} {q} e h i d =
    ⊎_elim
    (λ l.
    let found : PrimeIn p e n q = prime_in_powers e (fewer_primes h) i l in
    record { place = found.place; below = le_step found.below; is = found.is; some = found.some })
    (λ r. record {
      place = n;
      below = lt-suc_self n;
      is = sym (prime_in_prime i (h.prime n (lt-suc_self n)) (prime_in_power (p n) (e n) i r));
      some = not_zero (e n) r;
    })
    (euclid (powers p e n) (p n ^ e n) i d)
  where
    not_zero : (x : ℕ) → Divides q (p n ^ x) → 0 < x
    not_zero zero r = absurd (prime_not_one i (rw pow-zero at r))
    not_zero (suc x) r = omega arith
