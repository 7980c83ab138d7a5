-- The fraction in lowest terms that equals num / den, and the order of fractions.
use Rattle.std.specs.Prelude.{ℕ, ◌*◌, ◌/◌, ◌^◌, ◌≤◌, ◌<◌, ◌≡◌, Bool, true, ◌↔◌, ltb}
use Rattle.std.proofs.Common.{sym, ap, div-le_self, div-one, pos_of_ne-zero, mul-pos, mul-le-mul, arith, ltb-true, lt-ltb}
use Rattle.std.proofs.Math.Nat.{eq_of_mul-eq-mul_left}
use Rattle.fraction.specs.declared.Fraction.{Fraction}
use Rattle.numbers.specs.DivisorLaws.{divisor_positive, quotient_is}
use Rattle.numbers.specs.Gcd.{gcd_is, gcd_positive, coprime_one_right, gcd_quotients, coprime_unique}
use Rattle.numbers.specs.Divisors.{Coprime, gcd}
use Rattle.numbers.specs.Rationals.{Rational, ◌≈◌, ◌≺◌, ◌·◌, share}

-- num / den, with both parts divided by their greatest common divisor
unfoldable pub lowest_terms : ℕ → ℕ → Fraction
lowest_terms num den = record { num = num / gcd num den; den = den / gcd num den }

-- parts without a common divisor stay as they are
pub lowest_already : {num den : ℕ} → gcd num den ≡ 1 → record { num = num; den = den } ≡ lowest_terms num den
unfolding lowest_terms
lowest_already {num} {den} e = rw (e, div-one num, div-one den)

-- f is the fraction in lowest terms that equals num / den
pub record IsLowest (num den : ℕ) (f : Fraction) : Type 0 where
  pub equal : f.num * den ≡ num * f.den
  pub over : 0 < f.den
  pub lowest : Coprime f.num f.den

-- lowestTerms is such a fraction
pub lowest_is : (num den : ℕ) → 0 < den → IsLowest num den (lowest_terms num den)
unfolding lowest_terms
lowest_is num den p = record {
  equal = omega (arith, ap (λ (n : ℕ). num / g * n) r, ap (λ (n : ℕ). n * (den / g)) l);
  over = divisor_positive (record { quotient = g; is = omega (arith, r) }) p;
  lowest = gcd_quotients (num / g) (den / g) (gcd_is num den) (gcd_positive num den p) (sym l) (sym r);
}
  where
    g : ℕ
    g = gcd num den

    l : g * (num / g) ≡ num
    l = quotient_is (gcd_is num den).left

    r : g * (den / g) ≡ den
    r = quotient_is (gcd_is num den).right

-- and the only one
pub lowest_only : {num den : ℕ} {f : Fraction} → 0 < den → IsLowest num den f → f ≡ lowest_terms num den
lowest_only {num} {den} {f} p h = λ i. record { num = both.0 i; den = both.1 i }
  where
    k : IsLowest num den (lowest_terms num den)
    k = lowest_is num den p

    both : (f.num ≡ (lowest_terms num den).num) × (f.den ≡ (lowest_terms num den).den)
    both =
        coprime_unique h.lowest k.lowest k.over
        (eq_of_mul-eq-mul_left den p (f.num * (lowest_terms num den).den) ((lowest_terms num den).num * f.den)
        (omega (
          arith,
          ap (λ (n : ℕ). n * (lowest_terms num den).den) h.equal,
          ap (λ (n : ℕ). n * f.den) k.equal,
        )))

-- equal fractions have the same lowest terms
pub lowest_same : (a c : ℕ) {b d : ℕ} → 0 < b → 0 < d → a * d ≡ c * b → lowest_terms a b ≡ lowest_terms c d
lowest_same a c {b} {d} p q e =
    let h = lowest_is a b p in
    lowest_only q (record {
      equal =
          eq_of_mul-eq-mul_left b p ((lowest_terms a b).num * d) (c * (lowest_terms a b).den)
          (omega (
            arith,
            ap (λ (n : ℕ). n * d) h.equal,
            ap (λ (n : ℕ). n * (lowest_terms a b).den) e,
          ));
      over = h.over;
      lowest = h.lowest;
    })

-- lowest terms times a weight are, reduced, the lowest terms of the product
pub lowest_times : (a b w : ℕ) → 0 < b → lowest_terms ((lowest_terms a b).num * w) (lowest_terms a b).den ≡ lowest_terms (a * w) b
lowest_times a b w p =
    let h = lowest_is a b p in
    lowest_same ((lowest_terms a b).num * w) (a * w) h.over p (omega (arith, ap (λ (n : ℕ). n * w) h.equal))

-- 0 and 1
abbrev pub zero : Fraction
zero = record { num = 0; den = 1 }

abbrev pub one : Fraction
one = record { num = 1; den = 1 }

pub lowest_zero : {den : ℕ} → 0 < den → lowest_terms 0 den ≡ zero
lowest_zero p = sym (lowest_only p (record { equal = omega arith; over = omega arith; lowest = coprime_one_right 0 }))

pub lowest_one : {n : ℕ} → 0 < n → lowest_terms n n ≡ one
lowest_one p = sym (lowest_only p (record { equal = omega arith; over = omega arith; lowest = coprime_one_right 1 }))

-- its parts are no larger, and above zero where num is
pub lowest_small : (num den : ℕ) → ((lowest_terms num den).num ≤ num) × ((lowest_terms num den).den ≤ den)
unfolding lowest_terms
lowest_small num den = (div-le_self num (gcd num den), div-le_self den (gcd num den))

pub lowest_above_zero : {num den : ℕ} → 0 < num → 0 < den → 0 < (lowest_terms num den).num
lowest_above_zero {num} {den} p q =
    let h = lowest_is num den q in
    pos_of_ne-zero (λ e. omega (arith, h.equal, mul-pos p h.over, ap (λ (n : ℕ). n * den) e))

-- a product of parts below 2 ^ 32 fits 64 bits
pub narrow_product : {x y : ℕ} → x < 2 ^ 32 → y < 2 ^ 32 → x * y < 2 ^ 64
narrow_product {x} {y} h k = omega (arith, mul-le-mul {n₁ = x} {m₁ = y} {n₂ = 4294967295} {m₂ = 4294967295} (omega arith) (omega arith))

-- less exactly when the products say so
unfoldable pub less_than : Fraction → Fraction → Bool
less_than f g = ltb (f.num * g.den) (g.num * f.den)

-- the rational number that a fraction is
abbrev pub value_of : (f : Fraction) → 0 < f.den → Rational
value_of f p = share f.num f.den p

pub less_is : (f g : Fraction) (p : 0 < f.den) (q : 0 < g.den) → (less_than f g ≡ true) ↔ (value_of f p ≺ value_of g q)
unfolding less_than
less_is f g p q = (λ e. omega (arith, ltb-true (f.num * g.den) (g.num * f.den) e), λ h. lt-ltb (f.num * g.den) (g.num * f.den) (omega arith))

pub lowest_value : (num den : ℕ) (p : 0 < den) → value_of (lowest_terms num den) (lowest_is num den p).over ≈ share num den p
lowest_value num den p = omega (arith, (lowest_is num den p).equal)

-- a weight times a fraction
pub times_value : (f : Fraction) (p : 0 < f.den) (weight : ℕ)
    → value_of (lowest_terms (f.num * weight) f.den) (lowest_is (f.num * weight) f.den p).over ≈ weight · value_of f p
times_value f p weight = omega (arith, (lowest_is (f.num * weight) f.den p).equal)
