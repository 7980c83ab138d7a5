-- The value of a port's rate limit: in lowest terms, with small parts.
use Prim.Native.Nat.{ℕ, ◌+◌, ◌*◌, ◌≤◌, ◌<◌}
use mathlib.Core.Path.{◌≡◌}
use mathlib.Core.Logic.{⊎_elim}
use mathlib.Core.List.{List}
use native.Mathlib.Omega.{arith}
use lib.ListN.{get_or}
use borrow.Author.Tests.{eq-eqb, ne_eqb}
use Rattle.fraction.specs.declared.Fraction.{Fraction}
use Rattle.fraction.specs.Lowest.{lowest_is, lowest_small}
use Rattle.numbers.specs.Divisors.{Coprime}
use Rattle.numbers.specs.Gcd.{coprime_one_right}
use Rattle.numbers.specs.Lists.{◌∈◌}
use Rattle.numbers.specs.ListLaws.{lt_or_le}
use Rattle.period.specs.Component.{most_amount}
use Rattle.period.specs.Limited.{Limited}
use Rattle.period.specs.LimitOf.{limit_of}

-- a fraction in lowest terms, with small parts
pub record Small (f : Fraction) : Type 0 where
  pub over : 0 < f.den
  pub lowest : Coprime f.num f.den
  pub num : f.num ≤ most_amount
  pub den : f.den ≤ most_amount

pub small_zero : Small (record { num = 0; den = 1 })
small_zero = record { over = omega arith; lowest = coprime_one_right 0; num = omega arith; den = omega arith }

-- f is the rate limit of port p, or zero where the port has none
pub record IsValue (limits : List ℕ) (p : ℕ) (f : Fraction) : Type 0 where
  pub small : Small f
  pub equal : get_or limits (2 * p) 0 * f.den ≡ get_or limits (2 * p + 1) 0 * f.num
  pub rated : 0 < f.num → 0 < get_or limits (2 * p + 1) 0

pub limit_value : {ports limits : List ℕ} {p : ℕ} {f : Fraction} → Limited ports limits → p ∈ ports → f ≡ limit_of limits p → IsValue limits p f
unfolding limit_of
limit_value {ports} {limits} {p} {f} s m e = rw e (⊎_elim
    (λ (h : 0 < den).
    let l = lowest_is num den h in
    let parts = lowest_small num den in
    rw (ne_eqb den 0 (λ k. omega arith)) (record {
      small = record {
        over = l.over;
        lowest = l.lowest;
        num = omega (arith, parts.0, s.small.num_most p m);
        den = omega (arith, parts.1, s.small.den_most p m);
      };
      equal = omega (arith, l.equal);
      rated = λ k. h;
    }))
    (λ (h : den ≤ 0).
    let none : den ≡ 0 = omega arith in
    rw (eq-eqb den 0 none) (record {
      small = small_zero;
      equal = omega (arith, s.small.unrated p m none);
      rated = λ k. absurd (omega arith);
    }))
    (lt_or_le 0 den))
  where
    num : ℕ
    num = get_or limits (2 * p) 0

    den : ℕ
    den = get_or limits (2 * p + 1) 0
