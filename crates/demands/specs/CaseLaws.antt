-- The cases of a needed delay: exactly one holds each time, and its value is the fewest events.
use Rattle.std.specs.Prelude.{ℕ, ◌+◌, ◌*◌, ◌-◌, ◌/◌, ◌%◌, ◌≤◌, ◌<◌, ◌≡◌, refl, ◌≢◌}
use Rattle.std.proofs.Common.{sym, ap, ◌∙◌, ⊎_elim, pos_of_ne-zero, mul-pos, arith}
use Rattle.std.proofs.Math.Nat.{lt-div-mul-add, div-add-mod}
use Rattle.std.proofs.Math.Decide.{ℕ_discrete}
use Rattle.numbers.specs.Rationals.{Rational, ◌≼◌, ◌≺◌, ◌·◌, whole}
use Rattle.numbers.specs.RationalLaws.{≼_trans, ≼-≺_trans, ≺-≼_trans, ≼_or_≺, ≼_not_≺, ≺-≼, ≈-≼, ≈_sym, ≈_trans, ·_zero, factor_≼, factor_≺, factor_≈}
use Rattle.specification.specs.declared.Events.{Events}
use Rattle.specification.specs.declared.Needed.{Needed}
use Rattle.specification.specs.declared.Needed.TheVariants.{Nothing, Exact, PartOver}
use Rattle.specification.specs.Sizes.{ExactEvents, EventsAndPart, IsNeeded, ExactlyOne, size_of}

-- the pair, where its type is not yet known
abbrev pub amounts : (forward back : ℕ) → Events
amounts forward back = (forward, back)

-- equal forward, and nothing back
same_events : (e f : Events) → e.1 ≡ 0 → f.1 ≡ 0 → e.0 ≡ f.0 → e ≡ f
same_events e f h k same = ap (λ (n : ℕ). amounts n e.1) same ∙ ap (amounts f.0) (h ∙ sym k)

module _ {period : Rational} (some : whole 0 ≺ period) (needed : Rational) where
  -- ---- the value of a case is the fewest events
  pub case_enough : (x : Needed) → IsNeeded needed period x → needed ≼ size_of x · period
  case_enough Nothing h = ≼_trans h.holds (≈-≼ (≈_sym (·_zero period)))
  case_enough (Exact e) h = ≈-≼ h.exact
  case_enough (PartOver e) h = ≺-≼ h.less

  pub case_least : (x : Needed) → IsNeeded needed period x → (n : ℕ) → needed ≼ n · period → size_of x ≤ n
  case_least Nothing h n enough = omega arith
  case_least (Exact e) h n enough = factor_≼ some e.0 n (≼_trans (≈-≼ (≈_sym h.exact)) enough)
  case_least (PartOver e) h n enough = omega (arith, factor_≺ some e.0 n (≺-≼_trans h.part enough))

  -- ---- no two cases
  not_both : {e f : Events} → ExactEvents needed period e → ¬ EventsAndPart needed period f
  not_both {e} {f} h k = omega (
    arith,
    factor_≺ some f.0 e.0 (≺-≼_trans k.part (≈-≼ h.exact)),
    factor_≺ some e.0 (f.0 + 1) (≼-≺_trans (≈-≼ (≈_sym h.exact)) k.less),
  )

  only_one : (x y : Needed) → IsNeeded needed period x → IsNeeded needed period y → x ≡ y
  only_one Nothing Nothing h k = refl
  only_one Nothing (Exact f) h k = absurd (≼_not_≺ h.holds k.above_zero)
  only_one Nothing (PartOver f) h k = absurd (≼_not_≺ h.holds k.above_zero)
  only_one (Exact e) Nothing h k = absurd (≼_not_≺ k.holds h.above_zero)
  only_one (Exact e) (Exact f) h k = ap Exact (same_events e f h.none_back k.none_back (factor_≈ some (≈_trans (≈_sym h.exact) k.exact)))
  only_one (Exact e) (PartOver f) h k = absurd (not_both h k)
  only_one (PartOver e) Nothing h k = absurd (≼_not_≺ k.holds h.above_zero)
  only_one (PartOver e) (Exact f) h k = absurd (not_both k h)
  only_one (PartOver e) (PartOver f) h k =
      let low = factor_≺ some e.0 (f.0 + 1) (≼-≺_trans (≺-≼ h.part) k.less) in
      let high = factor_≺ some f.0 (e.0 + 1) (≼-≺_trans (≺-≼ k.part) h.less) in
      ap PartOver (same_events e f h.none_back k.none_back (omega (arith, low, high)))

  -- ---- which case it is
  -- the delay, where it is above zero, and the period as whole numbers over one denominator
  abbrev pub delay_over : ℕ
  delay_over = (needed.plus - needed.minus) * period.over

  abbrev pub period_over : ℕ
  period_over = (period.plus - period.minus) * needed.over

  -- the quotient has the whole events, the remainder the part over
  module _ (above_zero : whole 0 ≺ needed) (d p : ℕ) (delay : d ≡ delay_over) (length : p ≡ period_over) where
    delay_is : needed.plus * period.over ≡ needed.minus * period.over + d
    delay_is =
        let e : needed.plus ≡ needed.minus + (needed.plus - needed.minus) = omega (arith, above_zero.holds) in
        omega (arith, delay, ap (λ (x : ℕ). x * period.over) e)

    periods_are : (n : ℕ) → n * period.plus * needed.over ≡ n * period.minus * needed.over + n * p
    periods_are n =
        let e : period.plus ≡ period.minus + (period.plus - period.minus) = omega (arith, some.holds) in
        omega (arith, ap (λ (x : ℕ). n * x) length, ap (λ (x : ℕ). n * x * needed.over) e)

    pub exact_events : d % p ≡ 0 → ExactEvents needed period (d / p, 0)
    exact_events none = record {
      none_back = refl;
      above_zero = above_zero;
      exact = omega (arith, none, div-add-mod d p, delay_is, periods_are (d / p));
    }

    pub events_and_part : d % p ≢ 0 → EventsAndPart needed period (d / p, 0)
    events_and_part part =
        let over : 0 < d % p = pos_of_ne-zero part in
        let p_some : 0 < p = rw length (mul-pos (omega (arith, some.holds)) needed.positive) in
        record {
          none_back = refl;
          above_zero = above_zero;
          part = omega (arith, div-add-mod d p, delay_is, periods_are (d / p));
          less = omega (arith, lt-div-mul-add {a = d} p_some, delay_is, periods_are (d / p + 1));
        }

  one : (x : Needed) → IsNeeded needed period x → ExactlyOne needed period
  one x h = record { case = x; holds = h; only = λ y k. only_one y x k h }

  divided : whole 0 ≺ needed → Dec (delay_over % period_over ≡ 0) → ExactlyOne needed period
  divided above_zero (yes e) = one (Exact (delay_over / period_over, 0)) (exact_events above_zero _ _ refl refl e)
  divided above_zero (no f) = one (PartOver (delay_over / period_over, 0)) (events_and_part above_zero _ _ refl refl f)

  pub exactly_one : ExactlyOne needed period
  exactly_one = ⊎_elim
      (λ (h : needed ≼ whole 0). one Nothing (record { holds = h }))
      (λ (h : whole 0 ≺ needed). divided h (ℕ_discrete (delay_over % period_over) 0))
      (≼_or_≺ needed (whole 0))
