-- The greatest rate limit of the first ports, or zero.
use Prim.Native.Nat.{ℕ, ◌+◌, ◌*◌, ◌≤◌, ◌<◌}
use mathlib.Core.Path.{◌≡◌, refl, sym, ◌∙◌}
use mathlib.Core.Logic.{⊎_elim}
use mathlib.Core.Bool.{Bool, true, false}
use mathlib.Core.List.{List}
use Rattle.std.specs.Prelude.{Some, None}
use native.Mathlib.Nat.{mul-le-mul_right}
use native.Mathlib.Omega.{arith}
use lib.ListN.{length, get_or}
use borrow.Author.Tests.{ltb-true, ltb-false}
use Rattle.fraction.specs.declared.Fraction.{Fraction}
use Rattle.fraction.specs.Lowest.{less_than}
use Rattle.numbers.specs.ListLaws.{lt_or_le, position}
use Rattle.numbers.specs.Taken.{member_at}
use Rattle.period.specs.LimitOf.{limit_of}
use Rattle.period.specs.Limited.{Limited}
use Rattle.period.specs.Greatest.{GreatestLimit}
use Rattle.period.proofs.limit.Value.{Small, small_zero, IsValue, limit_value}
use Rattle.period.proofs.limit.Below.{Below, Under, below_limit, below_greater, under_greater}
use Rattle.period.specs.declared.limit.Limit.{Limit}

-- f is the rate limit of a port with a rate, the first among the first i ports that none of them passes
pub record LedBy (ports limits : List ℕ) (i port : ℕ) (f : Fraction) : Type 0 where
  pub place : ℕ
  pub passed : place < i
  pub is : get_or ports place 0 ≡ port
  pub limit : IsValue limits port f
  pub above_zero : 0 < f.num
  pub before : (j : ℕ) → j < place → Under limits f (get_or ports j 0)

-- none of the first i ports has a greater rate limit; until one of them has a rate, the limit is zero
pub record Leading (ports limits : List ℕ) (i : ℕ) (l : Limit) : Type 0 where
  pub within : i ≤ length ports
  pub small : Small l.value
  pub led : 0 < l.value.num → LedBy ports limits i l.port l.value
  pub none : l.value.num ≡ 0 → l.value ≡ record { num = 0; den = 1 }
  pub greatest : (j : ℕ) → j < i → Below limits l.value (get_or ports j 0)

-- before the first port
pub leading_none : {ports limits : List ℕ} → Leading ports limits 0 (record { port = 0; value = record { num = 0; den = 1 } })
leading_none = record {
  within = omega arith;
  small = small_zero;
  led = λ h. absurd (omega arith);
  none = λ e. refl;
  greatest = λ j h. absurd (omega arith);
}

-- one port more
below_one_more : (ports limits : List ℕ) (i : ℕ) {f : Fraction} → ((j : ℕ) → j < i → Below limits f (get_or ports j 0)) → Below limits f (get_or ports i 0)
    → (j : ℕ) → j < i + 1 → Below limits f (get_or ports j 0)
below_one_more ports limits i all new j h =
    ⊎_elim (λ (l : j < i). all j l) (λ (l : i ≤ j). let e : j ≡ i = omega arith in rw e new) (lt_or_le j i)

led_one_more : {ports limits : List ℕ} {i port : ℕ} {f : Fraction} → LedBy ports limits i port f → LedBy ports limits (i + 1) port f
led_one_more l = record {
  place = l.place;
  passed = omega (arith, l.passed);
  is = l.is;
  limit = l.limit;
  above_zero = l.above_zero;
  before = l.before;
}

module _ {ports limits : List ℕ} (s : Limited ports limits) where
  module _ {i : ℕ} {x : Limit} {g : Fraction} {b : Bool} (t : Leading ports limits i x) (more : i < length ports)
      (l : g ≡ limit_of limits (get_or ports i 0)) (less : b ≡ less_than x.value g) where
    value : IsValue limits (get_or ports i 0) g
    value = limit_value s (member_at ports i more) l

    -- the next port's rate limit is greater
    pub leading_new : b ≡ true → Leading ports limits (i + 1) (record { port = get_or ports i 0; value = g })
    unfolding less_than
    leading_new h = record {
      within = omega arith;
      small = value.small;
      led = λ _. record {
        place = i;
        passed = omega arith;
        is = refl;
        limit = value;
        above_zero = above_zero;
        before = λ j p. under_greater t.small.over (t.greatest j p) greater;
      };
      none = λ e. absurd (omega (arith, above_zero, e));
      greatest = below_one_more ports limits i (λ j p. below_greater t.small.over (t.greatest j p) greater) (below_limit value (omega arith));
    }
      where
        greater : x.value.num * g.den < g.num * x.value.den
        greater = ltb-true (x.value.num * g.den) (g.num * x.value.den) (sym less ∙ h)

        above_zero : 0 < g.num
        above_zero = ⊎_elim
            (λ (k : 0 < g.num). k)
            (λ (k : g.num ≤ 0). absurd (omega (arith, greater, mul-le-mul_right x.value.den k)))
            (lt_or_le 0 g.num)

    -- it is not
    pub leading_kept : b ≡ false → Leading ports limits (i + 1) x
    unfolding less_than
    leading_kept h = record {
      within = omega arith;
      small = t.small;
      led = λ p. led_one_more (t.led p);
      none = t.none;
      greatest = below_one_more ports limits i t.greatest (below_limit value (ltb-false (x.value.num * g.den) (g.num * x.value.den) (sym less ∙ h)));
    }

  -- after the last port
  module _ {i : ℕ} {l : Limit} (t : Leading ports limits i l) (done : length ports ≤ i) where
    pub leading_unrated : l.value.num ≡ 0 → GreatestLimit ports limits None
    leading_unrated zero = record {
      unrated = λ p k. let at = position k in ⊎_elim
          (λ (h : 0 < get_or limits (2 * p + 1) 0). absurd (omega (arith, s.small.rated p k h, rw (at.2, t.none zero) at (t.greatest at.0 (omega (arith, at.1))).holds)))
          (λ (h : get_or limits (2 * p + 1) 0 ≤ 0). omega arith)
          (lt_or_le 0 (get_or limits (2 * p + 1) 0));
    }

    pub leading_last : 0 < l.value.num → GreatestLimit ports limits (Some l)
    leading_last some = let d = t.led some in record {
      limit = record {
        a_port = rw d.is at (member_at ports d.place (omega (arith, d.passed, t.within)));
        rated = d.limit.rated d.above_zero;
        exact = d.limit.equal;
      };
      above_zero = d.above_zero;
      place = d.place;
      within = omega (arith, d.passed, t.within);
      is = d.is;
      before = λ j h. (d.before j h).holds;
      greatest = λ p k. let at = position k in rw at.2 at (t.greatest at.0 (omega (arith, at.1))).holds;
      over = t.small.over;
      lowest = t.small.lowest;
      small_num = t.small.num;
      small_den = t.small.den;
    }
