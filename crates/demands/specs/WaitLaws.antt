-- Where δ is whole, a connection waits as document 01 says: for k divided by the ratio, rounded down, plus δ.
use Rattle.std.specs.Prelude.{ℕ, suc, ◌+◌, ◌*◌, ◌/◌, ◌≤◌, ◌<◌, ◌≡◌, ◌↔◌}
use Rattle.std.proofs.Common.{ap, le_antisymm, mul-le-mul_right, mul-lt-mul_of_pos_right, div-mul-le_self, lt_of_mul-lt-mul_right, arith}
use Rattle.std.proofs.Math.Nat.{lt-mul-div-succ}
use Rattle.numbers.specs.Divisors.{Divides}
use Rattle.numbers.specs.DivisorLaws.{quotient_is}
use Rattle.specification.specs.Table.{Table, num, den, δ⁺, δ⁻, δ°}
use Rattle.specification.specs.Chains.{WaitsFor}

-- whole δ, forward and back
abbrev pub e⁺ : Table → ℕ → ℕ
e⁺ t n = δ⁺ t n / δ° t n

abbrev pub e⁻ : Table → ℕ → ℕ
e⁻ t n = δ⁻ t n / δ° t n

module _ (t : Table) (n k m : ℕ) (some : 0 < num t n) (over : 0 < δ° t n) (forward : Divides (δ° t n) (δ⁺ t n)) (back : Divides (δ° t n) (δ⁻ t n)) where
  abbrev q : ℕ
  q = k * den t n / num t n

  -- both sides of the sum over the ratio's numerator and the denominator of δ
  below : q * (num t n * δ° t n) ≤ k * den t n * δ° t n
  below = omega (arith, mul-le-mul_right (δ° t n) (div-mul-le_self (k * den t n) (num t n)))

  above : k * den t n * δ° t n < suc q * (num t n * δ° t n)
  above = omega (arith, mul-lt-mul_of_pos_right (lt-mul-div-succ (k * den t n) some) over)

  forward_is : e⁺ t n * (num t n * δ° t n) ≡ δ⁺ t n * num t n
  forward_is = omega (arith, ap (λ (x : ℕ). x * num t n) (quotient_is forward))

  back_is : e⁻ t n * (num t n * δ° t n) ≡ δ⁻ t n * num t n
  back_is = omega (arith, ap (λ (x : ℕ). x * num t n) (quotient_is back))

  pub waits_whole : WaitsFor t n k m ↔ (m + e⁻ t n ≡ k * den t n / num t n + e⁺ t n)
  waits_whole = (
    λ h.
        let less : m + e⁻ t n < suc (q + e⁺ t n) = lt_of_mul-lt-mul_right (num t n * δ° t n) (omega (
          arith,
          h.rounded.low.holds,
          above,
          forward_is,
          back_is,
        )) in
        let more : q + e⁺ t n < suc (m + e⁻ t n) = lt_of_mul-lt-mul_right (num t n * δ° t n) (omega (
          arith,
          h.rounded.high.holds,
          below,
          forward_is,
          back_is,
        )) in
        le_antisymm (omega arith) (omega arith),
    λ e. let same = ap (λ (x : ℕ). x * (num t n * δ° t n)) e in
        record {
          ratio_some = some;
          over_some = over;
          rounded = record {
            low = record { holds = omega (arith, below, same, forward_is, back_is) };
            high = record { holds = omega (arith, above, same, forward_is, back_is) };
          };
        },
  )
