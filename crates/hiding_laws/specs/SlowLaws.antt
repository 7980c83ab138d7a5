-- The rate that the sender of a hidden port gets: no more than it was, no more than the hidden one divided by the ratio, and one of the two.
use Rattle.std.specs.Prelude.{ℕ, ◌*◌, ◌≤◌, ◌<◌, ◌≡◌, refl, Bool, ◌||◌, ◌⊎◌}
use Rattle.std.proofs.Math.Path.{ap}
use Rattle.std.proofs.Math.Bool.{true, false}
use Rattle.std.proofs.Common.{true≢false, mul-pos}
use Rattle.std.proofs.Math.Logic.{inl, inr, ⊎_elim}
use Rattle.std.proofs.Math.Nat.{mul-le-mul_right, le_of_mul-le-mul_right}
use native.Mathlib.Omega.{arith}
use Rattle.std.proofs.Math.Dec.{eqb, ltb}
use borrow.Author.Tests.{eqb-true, eq-eqb, ltb-true, ltb-false}
use Rattle.specification.specs.declared.Port.{Port}
use Rattle.specification.specs.declared.Link.{Link}
use Rattle.specification.specs.Hiding.{carried_rate, slower}
use Rattle.hiding_laws.specs.LowestLaws.{lowest_equal, lowest_over, lowest_some}

-- a rate, or none
abbrev pub Rated : Port → Type 0
Rated p = ((0 < p.num) × (0 < p.den)) ⊎ ((p.num ≡ 0) × (p.den ≡ 0))

-- hidden rate r, connection l, the sender's rate s before and s' after
pub record Slow (r : Port) (l : Link) (s s' : Port) : Type 0 where
  pub no_more : s'.num * s.den ≤ s.num * s'.den
  pub enough : s'.num * (r.den * l.num) ≤ r.num * l.den * s'.den
  pub one : (s' ≡ s) ⊎ ((0 < r.num) × (s'.num * (r.den * l.num) ≡ r.num * l.den * s'.den))
  pub some : (0 < s'.num) ⊎ ((r.num ≡ 0) × (r.den ≡ 0) × (s.num ≡ 0) × (s.den ≡ 0))

either_true : (a b : Bool) → (a || b) ≡ true → (a ≡ true) ⊎ (b ≡ true)
either_true true b h = inl refl
either_true false b h = inr h

-- the hidden port has no rate
pub slow_none : (r : Port) (l : Link) (s : Port) → r.num ≡ 0 → r.den ≡ 0 → Rated s → Slow r l s s
slow_none r l s n d rated = record {
  no_more = omega arith;
  enough = rw (n, d) (omega arith);
  one = inl refl;
  some = ⊎_elim (λ (h : (0 < s.num) × (0 < s.den)). inl h.0) (λ (h : (s.num ≡ 0) × (s.den ≡ 0)). inr (n, d, h.0, h.1)) rated;
}

module _ (r : Port) (l : Link) (s : Port) (num : 0 < r.num) (den : 0 < r.den) (gained : 0 < l.num) (over : 0 < l.den) where
  exact : (carried_rate r l).num * (r.den * l.num) ≡ r.num * l.den * (carried_rate r l).den
  unfolding carried_rate
  exact = lowest_equal (r.num * l.den) (r.den * l.num) (mul-pos den gained)

  pub carried_num : 0 < (carried_rate r l).num
  unfolding carried_rate
  carried_num = lowest_some (r.num * l.den) (r.den * l.num) (mul-pos den gained) (mul-pos num over)

  pub carried_den : 0 < (carried_rate r l).den
  unfolding carried_rate
  carried_den = lowest_over (r.num * l.den) (r.den * l.num) (mul-pos den gained)

  pub slow_lowered : Rated s → slower (carried_rate r l) s ≡ true → Slow r l s (carried_rate r l)
  unfolding slower
  slow_lowered rated h = record {
    no_more = ⊎_elim
        (λ (e : eqb s.num 0 ≡ true).
        let z = eqb-true s.num 0 e in
        ⊎_elim (λ (f : (0 < s.num) × (0 < s.den)). absurd (omega (arith, z, f.0)))
        (λ (f : (s.num ≡ 0) × (s.den ≡ 0)). rw (f.0, f.1) (omega arith)) rated)
        (λ (e : ltb ((carried_rate r l).num * s.den) (s.num * (carried_rate r l).den) ≡ true).
        omega (arith, ltb-true ((carried_rate r l).num * s.den) (s.num * (carried_rate r l).den) e))
        (either_true (eqb s.num 0) (ltb ((carried_rate r l).num * s.den) (s.num * (carried_rate r l).den)) h);
    enough = omega (arith, exact);
    one = inr (num, exact);
    some = inl carried_num;
  }

  pub slow_kept : Rated s → slower (carried_rate r l) s ≡ false → Slow r l s s
  unfolding slower
  slow_kept rated h = record {
    no_more = omega arith;
    enough = le_of_mul-le-mul_right {k = (carried_rate r l).den} (omega (
      arith,
      mul-le-mul_right (r.den * l.num) (ltb-false ((carried_rate r l).num * s.den) (s.num * (carried_rate r l).den) (right h)),
      ap (λ (z : ℕ). z * s.den) exact,
    )) carried_den;
    one = inl refl;
    some = inl (⊎_elim (λ (f : (0 < s.num) × (0 < s.den)). f.0) (λ (f : (s.num ≡ 0) × (s.den ≡ 0)). absurd (left f.0 h)) rated);
  }
    where
      right_of : (a b : Bool) → (a || b) ≡ false → b ≡ false
      right_of true b e = absurd (true≢false e)
      right_of false b e = e

      right : (eqb s.num 0 || ltb ((carried_rate r l).num * s.den) (s.num * (carried_rate r l).den)) ≡ false
          → ltb ((carried_rate r l).num * s.den) (s.num * (carried_rate r l).den) ≡ false
      right e = right_of (eqb s.num 0) (ltb ((carried_rate r l).num * s.den) (s.num * (carried_rate r l).den)) e

      left : s.num ≡ 0 → (eqb s.num 0 || ltb ((carried_rate r l).num * s.den) (s.num * (carried_rate r l).den)) ≡ false → ⊥
      left z e = true≢false (rw (eq-eqb s.num 0 z) at e)
