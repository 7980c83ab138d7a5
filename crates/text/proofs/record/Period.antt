-- A component's a/b in lowest terms, times a port's weight.
use Prim.Native.Nat.{ℕ, ◌*◌, ◌^◌, ◌<◌}
use mathlib.Core.Path.{◌≡◌}
use native.Mathlib.Nat.{mul_comm, lt_of_le_of_lt}
use native.Mathlib.Omega.{arith}
use Rattle.fraction.specs.declared.Fraction.{Fraction}
use Rattle.fraction.specs.Lowest.{lowest_terms, lowest_is, lowest_small, lowest_times, narrow_product}

module _ (a b : ℕ) {f : Fraction} (over : 0 < b) (is : f ≡ lowest_terms a b) where
  -- the product fits 64 bits
  pub times_fits : {weight : ℕ} → a < 2 ^ 32 → weight < 2 ^ 16 → (0 < f.den) × (f.num * weight < 2 ^ 64)
  times_fits small light =
      rw is ((lowest_is a b over).over, narrow_product (lt_of_le_of_lt (lowest_small a b).0 small) (omega arith))

  pub period_is : (weight : ℕ) {period : Fraction}
      → period ≡ lowest_terms (f.num * weight) f.den
      → period ≡ lowest_terms (weight * a) b
  period_is weight e = rw (e, is, lowest_times a b weight over, mul_comm a weight)
