-- Ports whose rate limits are at most a fraction, or less.
use Prim.Native.Nat.{ℕ, ◌+◌, ◌*◌, ◌≤◌, ◌<◌}
use mathlib.Core.Path.{ap}
use mathlib.Core.List.{List}
use native.Mathlib.Nat.{mul-le-mul_right, mul-lt-mul_of_pos_right, le_of_mul-le-mul_right, lt_of_mul-lt-mul_right}
use native.Mathlib.Omega.{arith}
use lib.ListN.{get_or}
use Rattle.fraction.specs.declared.Fraction.{Fraction}
use Rattle.period.proofs.limit.Value.{IsValue}

-- the rate limit of port p is at most f, or the port has none
pub record Below (limits : List ℕ) (f : Fraction) (p : ℕ) : Type 0 where
  pub holds : get_or limits (2 * p) 0 * f.den ≤ get_or limits (2 * p + 1) 0 * f.num

-- it is less than f, where the port has a rate
pub record Under (limits : List ℕ) (f : Fraction) (p : ℕ) : Type 0 where
  pub holds : 0 < get_or limits (2 * p + 1) 0 → get_or limits (2 * p) 0 * f.den < get_or limits (2 * p + 1) 0 * f.num

module _ {limits : List ℕ} {p : ℕ} {f g : Fraction} where
  -- its rate limit is g, and f is not less
  pub below_limit : IsValue limits p g → g.num * f.den ≤ f.num * g.den → Below limits f p
  below_limit l h = record {
    holds =
        le_of_mul-le-mul_right {k = g.den}
        (omega (arith, mul-le-mul_right (get_or limits (2 * p + 1) 0) h, ap (λ (x : ℕ). x * f.den) l.equal))
        l.small.over;
  }

  -- its rate limit is at most f, and f is less than g
  module _ (over : 0 < f.den) (h : Below limits f p) (less : f.num * g.den < g.num * f.den) where
    pub below_greater : Below limits g p
    below_greater = record {
      holds =
          le_of_mul-le-mul_right {k = f.den}
          (omega (arith, mul-le-mul_right g.den h.holds, mul-le-mul_right (get_or limits (2 * p + 1) 0) less))
          over;
    }

    pub under_greater : Under limits g p
    under_greater = record {
      holds = λ rated.
          lt_of_mul-lt-mul_right f.den
          (omega (arith, mul-le-mul_right g.den h.holds, mul-lt-mul_of_pos_right less rated));
    }
