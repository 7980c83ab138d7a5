-- The size of a buffer of a consistent table: exactly one case holds and gives it, and it is document 000's −δ rounded up.
use Rattle.std.specs.Prelude.{ℕ, ◌*◌, ◌≤◌, ◌<◌, refl, ◌↔◌}
use Rattle.std.proofs.Common.{⊎_elim, le_antisymm, mul-pos, mul-le-mul_right, arith}
use Rattle.numbers.specs.Rationals.{Rational, ◌≼◌, ◌≺◌, ◌≈◌, ◌⊕◌, ◌⊖◌, ◌⊗◌, ◌·◌, whole, ratio, share}
use Rattle.numbers.specs.RationalLaws.{≼_refl, ≼_trans, ≼_or_≺, ≺-≼, ≈-≼, ≈_sym, ⊖-≼, ·_zero}
use Rattle.table.specs.WellFormed.{WellFormed}
use Rattle.specification.specs.Table.{Table, IsBuffer, from}
use Rattle.specification.specs.Answers.{Timing, period_of, start_of, consistent, Consistent}
use Rattle.specification.specs.Solutions.{LeastSolution, EventsEnough}
use Rattle.specification.specs.Sizes.{size_of, needed_delay, SizeByCases, SizeRoundedUp}
use Rattle.demands.specs.ConstraintLaws.{from_port}
use Rattle.demands.specs.Demand2Laws.{demand_2}
use Rattle.demands.specs.CaseLaws.{case_enough, case_least, exactly_one}

-- ---- the δ at which line (5) holds with equality, of a delay x and the period q/u: −x divided by q/u
module _ (x : Rational) (q u : ℕ) (some : 0 < q) (over : 0 < u) where
  abbrev delta : Rational
  delta = ratio (x.minus * u) (x.plus * u) (x.over * q) (mul-pos x.positive some)

  delta_enough : x ⊕ delta ⊗ share q u over ≼ whole 0
  delta_enough = omega arith

  delta_greatest : (e : Rational) → x ⊕ e ⊗ share q u over ≼ whole 0 → e ≼ delta
  delta_greatest e h = omega (arith, h.holds)

  delta_below : whole 0 ≺ x → delta ≼ whole 0
  delta_below h = omega (arith, mul-le-mul_right u (≺-≼ h).holds)

  delta_whole : (n : ℕ) → (whole 0 ⊖ delta ≼ whole n) ↔ (x ≼ n · share q u over)
  delta_whole n = (λ h. omega (arith, h.holds), λ h. omega (arith, h.holds))

plus_zero : (x y : Rational) → x ⊕ whole 0 ⊗ y ≈ x
plus_zero x y = omega arith

-- the receiver's start on the other side
moved : (x y z : Rational) → (x ⊖ y ⊕ z ≼ whole 0) ↔ (x ⊕ z ≼ y)
moved x y z = (λ h. omega (arith, h.holds), λ h. omega (arith, h.holds))

module _ {t : Table} {r : Timing} {k : ℕ} (formed : WellFormed t) (h : Consistent t r) (buffer : IsBuffer t k) where
  abbrev sender : ℕ
  sender = from t k

  solved : LeastSolution t r
  solved = (demand_2 {x = consistent r} formed h).least r refl

  period_some : whole 0 ≺ period_of r sender
  period_some = solved.solution.above_zero sender (from_port formed k buffer.a_link)

  -- so many events are enough exactly when they take as long as is needed
  enough_is : (n : ℕ) → (needed_delay t r k ≼ n · period_of r sender) ↔ EventsEnough t (period_of r) (start_of r) k n
  enough_is n = (λ e. record { holds = (⊖-≼ _ _ _).0 e }, λ e. (⊖-≼ _ _ _).1 e.holds)

  size_enough : needed_delay t r k ≼ r.size k · period_of r sender
  size_enough = (enough_is (r.size k)).1 (solved.fewest_events_lem k buffer).enough

  size_least : (n : ℕ) → needed_delay t r k ≼ n · period_of r sender → r.size k ≤ n
  size_least n e = (solved.fewest_events_lem k buffer).fewest n ((enough_is n).0 e)

  pub size_by_cases : SizeByCases t r k
  size_by_cases =
      let one = exactly_one period_some (needed_delay t r k) in
      let x = one.case in
      record {
        one = one;
        size = le_antisymm
            (size_least (size_of x) (case_enough period_some (needed_delay t r k) x one.holds))
            (case_least period_some (needed_delay t r k) x one.holds (r.size k) size_enough);
      }

  -- nothing is needed: line (7) holds δ at zero
  rounded_nothing : needed_delay t r k ≼ whole 0 → SizeRoundedUp t r k
  rounded_nothing none = record {
    δ = whole 0;
    greatest = record {
      meets = record {
        line_5 = (moved _ _ _).0 (≼_trans (≈-≼ (plus_zero (needed_delay t r k) (period_of r sender))) none);
        line_7 = ≼_refl (whole 0);
      };
      greatest = λ e m. m.line_7;
    };
    rounded = record {
      enough = omega arith;
      least = λ m e. let no_size : r.size k ≤ 0 = size_least 0 (≼_trans none (≈-≼ (≈_sym (·_zero (period_of r sender))))) in omega arith;
    };
  }

  -- above zero: line (5) holds with equality
  rounded_above : whole 0 ≺ needed_delay t r k → SizeRoundedUp t r k
  rounded_above above =
      let x = needed_delay t r k in
      let q = r.weight sender * r.a sender in
      let some : 0 < q = omega (arith, period_some.holds) in
      let over = r.over sender in
      record {
        δ = delta x q (r.b sender) some over;
        greatest = record {
          meets = record {
            line_5 = (moved _ _ _).0 (delta_enough x q (r.b sender) some over);
            line_7 = delta_below x q (r.b sender) some over above;
          };
          greatest = λ e m. delta_greatest x q (r.b sender) some over e ((moved _ _ _).1 m.line_5);
        };
        rounded = record {
          enough = (delta_whole x q (r.b sender) some over (r.size k)).1 size_enough;
          least = λ m e. size_least m ((delta_whole x q (r.b sender) some over m).0 e);
        };
      }

  pub size_rounded_up : SizeRoundedUp t r k
  size_rounded_up = ⊎_elim
      (λ (none : needed_delay t r k ≼ whole 0). rounded_nothing none)
      (λ (above : whole 0 ≺ needed_delay t r k). rounded_above above)
      (≼_or_≺ (needed_delay t r k) (whole 0))
