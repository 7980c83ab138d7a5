-- Laws of divisibility.
use Rattle.std.specs.Prelude.{ℕ, ◌+◌, ◌*◌, ◌-◌, ◌/◌, ◌≤◌, ◌<◌, ◌≡◌, refl}
use Rattle.std.specs.Int.{◌∣◌}
use Rattle.std.proofs.Common.{sym, ap, arith}
use Rattle.std.proofs.Math.Nat.{mul-div_cancel', mul-sub, le_of_dvd, dvd_antisymm, eq-one_of_dvd-one, pos_of_dvd_of_pos}
use Rattle.std.proofs.Math.Decide.{dec_dvd}
use Rattle.numbers.specs.Divisors.{Divides}

pub of-∣ : (a b : ℕ) → a ∣ b → Divides a b
of-∣ a b h = record { quotient = b / a; is = sym (mul-div_cancel' a h) }

pub to-∣ : {a b : ℕ} → Divides a b → a ∣ b
to-∣ h = ∣ (h.quotient, h.is) ∣₁

pub divides? : (a b : ℕ) → Dec (Divides a b)
divides? a b = decided (dec_dvd a b)
  where
    decided : Dec (a ∣ b) → Dec (Divides a b)
    decided (yes h) = yes (of-∣ a b h)
    decided (no f) = no (λ h. f (to-∣ h))

pub divides-refl : (a : ℕ) → Divides a a
divides-refl a = record { quotient = 1; is = omega arith }

pub divides-zero : (a : ℕ) → Divides a 0
divides-zero a = record { quotient = 0; is = omega arith }

pub divides-all-one : (a : ℕ) → Divides 1 a
divides-all-one a = record { quotient = a; is = omega arith }

pub divides-trans : {a b c : ℕ} → Divides a b → Divides b c → Divides a c
divides-trans h k = record {
  quotient = h.quotient * k.quotient;
  is = omega (arith, ap (λ (x : ℕ). x * k.quotient) h.is);
}

pub divides-product : (a b : ℕ) → Divides a (a * b)
divides-product a b = record { quotient = b; is = refl }

pub divides-times : {d a : ℕ} (c : ℕ) → Divides d a → Divides d (a * c)
divides-times {d} {a} c h = divides-trans h (divides-product a c)

-- what divides a sum and its first part divides the second
pub divides-rest : {d b : ℕ} (a : ℕ) → Divides d a → Divides d (a + b) → Divides d b
divides-rest {d} a h k = record {
  quotient = k.quotient - h.quotient;
  is = omega (arith, mul-sub d k.quotient h.quotient);
}

pub divides-≤ : {a b : ℕ} → Divides a b → 0 < b → a ≤ b
divides-≤ h p = le_of_dvd p (to-∣ h)

pub divisor-positive : {a b : ℕ} → Divides a b → 0 < b → 0 < a
divisor-positive h p = pos_of_dvd_of_pos (to-∣ h) p

pub divides-antisym : {a b : ℕ} → Divides a b → Divides b a → a ≡ b
divides-antisym h k = dvd_antisymm (to-∣ h) (to-∣ k)

pub divides-one : {a : ℕ} → Divides a 1 → a ≡ 1
divides-one h = eq-one_of_dvd-one (to-∣ h)

-- a divisor times its whole quotient
pub quotient_is : {a b : ℕ} → Divides a b → a * (b / a) ≡ b
quotient_is {a} h = mul-div_cancel' a (to-∣ h)
