-- Laws of the greatest common divisor and of coprime numbers, and Gauss's lemma.
use Rattle.std.specs.Prelude.{ℕ, zero, suc, ◌+◌, ◌*◌, ◌/◌, ◌%◌, ◌≤◌, ◌<◌, ◌≡◌, refl}
use Rattle.std.proofs.Common.{ap, ◌∙◌, div-add-mod', mul-one, one-mul, mod-lt, zero-lt-suc, not-suc-le-zero, le_refl, arith}
use Rattle.std.proofs.Math.Nat.{eq_of_mul-eq-mul_left, eq_of_mul-eq-mul_right}
use Rattle.numbers.specs.Divisors.{Divides, Coprime, euclid-within, gcd}
use Rattle.numbers.specs.DivisorLaws.{divides-refl, divides-zero, divides-trans, divides-product, divides-times, divides-rest, divisor-positive, divides-antisym, divides-one}

-- g is the greatest common divisor: it divides both, and what divides both, times any c, divides g times c
pub record IsGcd (a b g : ℕ) : Type 0 where
  pub left : Divides g a
  pub right : Divides g b
  pub greatest : (d c : ℕ) → Divides d (a * c) → Divides d (b * c) → Divides d (g * c)

gcd-base : (a : ℕ) → IsGcd a 0 a
gcd-base a = record { left = divides-refl a; right = divides-zero a; greatest = λ d c p q. p }

gcd-step : {a b g : ℕ} → IsGcd b (a % b) g → IsGcd a b g
gcd-step {a} {b} {g} h = record {
  left = record {
    quotient = a / b * h.left.quotient + h.right.quotient;
    is = omega (arith, div-add-mod' a b, ap (λ (x : ℕ). x * (a / b)) h.left.is, h.right.is);
  };
  right = h.left;
  greatest = λ d c p q. h.greatest d c q (divides-rest (b * c * (a / b)) (divides-times (a / b) q) (rw (split c) at p));
}
  where
    split : (c : ℕ) → a * c ≡ b * c * (a / b) + a % b * c
    split c = omega (arith, ap (λ (x : ℕ). x * c) (div-add-mod' a b))

euclid-is : (n a b : ℕ) → b ≤ n → IsGcd a b (euclid-within n a b)
unfolding euclid-within
euclid-is zero a zero h = gcd-base a
euclid-is zero a (suc b) h = absurd (not-suc-le-zero h)
euclid-is (suc n) a zero h = gcd-base a
euclid-is (suc n) a (suc b) h =
    gcd-step (euclid-is n (suc b) (a % suc b) (omega (arith, mod-lt a (zero-lt-suc b))))

pub gcd-is : (a b : ℕ) → IsGcd a b (gcd a b)
unfolding gcd
gcd-is a b = euclid-is b a b (le_refl b)

-- what divides both divides the greatest
pub gcd-greatest : {a b g d : ℕ} → IsGcd a b g → Divides d a → Divides d b → Divides d g
gcd-greatest {d = d} h p q = simp mul-one at (h.greatest d 1 (simp mul-one p) (simp mul-one q))

pub gcd-unique : {a b g g' : ℕ} → IsGcd a b g → IsGcd a b g' → g ≡ g'
gcd-unique h k = divides-antisym (gcd-greatest k h.left h.right) (gcd-greatest h k.left k.right)

pub gcd-positive : (a b : ℕ) → 0 < b → 0 < gcd a b
gcd-positive a b p = divisor-positive (gcd-is a b).right p

-- the two steps of Euclid's algorithm
pub gcd-zero : (a : ℕ) → gcd a 0 ≡ a
gcd-zero a = gcd-unique (gcd-is a 0) (gcd-base a)

pub gcd-rest : (a b : ℕ) → gcd a b ≡ gcd b (a % b)
gcd-rest a b = gcd-unique (gcd-is a b) (gcd-step (gcd-is b (a % b)))

pub gcd-one : (a : ℕ) → gcd a 1 ≡ 1
gcd-one a = divides-one (gcd-is a 1).right

pub coprime-sym : {a b : ℕ} → Coprime a b → Coprime b a
coprime-sym h = record { only = λ d p q. h.only d q p }

pub coprime-one-right : (a : ℕ) → Coprime a 1
coprime-one-right a = record { only = λ d p q. divides-one q }

pub coprime-one : {a b : ℕ} → Coprime a b → gcd a b ≡ 1
coprime-one {a} {b} h = h.only (gcd a b) (gcd-is a b).left (gcd-is a b).right

pub coprime-gcd : {a b : ℕ} → Coprime a b → IsGcd a b 1
coprime-gcd {a} {b} h = rw (coprime-one h) at (gcd-is a b)

pub gcd-coprime : {a b : ℕ} → IsGcd a b 1 → Coprime a b
gcd-coprime h = record { only = λ d p q. divides-one (gcd-greatest h p q) }

-- Gauss's lemma: what divides a product and is coprime to one factor divides the other
pub gauss : {a b : ℕ} (c : ℕ) → Coprime a b → Divides a (b * c) → Divides a c
gauss {a} {b} c h k = simp one-mul at ((coprime-gcd h).greatest a c (divides-product a c) k)

pub coprime-divisor : {a b c : ℕ} → Coprime a b → Divides c b → Coprime a c
coprime-divisor h k = record { only = λ d p q. h.only d p (divides-trans q k) }

pub coprime-product : {a b c : ℕ} → Coprime a c → Coprime b c → Coprime (a * b) c
coprime-product {a} {b} h k = record { only = λ d p q. k.only d (gauss b (coprime-sym (coprime-divisor h q)) p) q }

-- two numbers divided by their greatest common divisor are coprime
pub gcd-quotients : {a b g : ℕ} (x y : ℕ) → IsGcd a b g → 0 < g → a ≡ g * x → b ≡ g * y → Coprime x y
gcd-quotients {a} {b} {g} x y h p ex ey =
    record { only = λ d l r. one d (gcd-greatest h (times-g d x ex l) (times-g d y ey r)) }
  where
    times-g : {n : ℕ} (d z : ℕ) → n ≡ g * z → Divides d z → Divides (g * d) n
    times-g d z e k = record { quotient = k.quotient; is = omega (arith, e, ap (λ (t : ℕ). g * t) k.is) }

    one : (d : ℕ) → Divides (g * d) g → d ≡ 1
    one d k =
        divides-one (record { quotient = k.quotient; is = eq_of_mul-eq-mul_left g p 1 (d * k.quotient) (omega (arith, k.is)) })

-- of two fractions in lowest terms that are equal the parts are equal
pub coprime-unique : {a b c d : ℕ} → Coprime a b → Coprime c d → 0 < d → a * d ≡ c * b → (a ≡ c) × (b ≡ d)
coprime-unique {a} {b} {c} {d} h k p e = (eq_of_mul-eq-mul_right d p a c (e ∙ ap (λ (x : ℕ). c * x) same), same)
  where
    same : b ≡ d
    same =
        divides-antisym (gauss d (coprime-sym h) (record { quotient = c; is = omega arith }))
        (gauss b (coprime-sym k) (record { quotient = a; is = omega arith }))

-- Euclid's own pair of numbers
gcd-example : gcd 1071 462 ≡ 21
unfolding gcd euclid-within
gcd-example = refl
