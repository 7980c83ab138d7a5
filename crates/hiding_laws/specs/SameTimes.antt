-- Hiding a port keeps the solutions of the other ports: their least periods, and their possible starts. It brings neither 14 nor 17.
use Rattle.std.specs.Prelude.{ℕ, ◌≡◌, refl, ◌≢◌}
use Rattle.std.proofs.Common.{arith}
use Rattle.std.proofs.Math.Decide.{ℕ_discrete}
use Rattle.numbers.specs.Rationals.{Rational, ◌≈◌, ◌⊕◌, ◌·◌}
use Rattle.numbers.specs.RationalLaws.{≼_antisym, ≼_trans, ≼_not_≺, ≈-≼, ≈_sym, ≈_trans, ≈_refl, ⊕-≈, ⊗_left_≈, ·-≈, ·_cancel_≈}
use Rattle.specification.specs.Table.{Table, port_count, IsPort, from, num, den}
use Rattle.specification.specs.Ratios.{SmallWeights, Overweight}
use Rattle.specification.specs.Answers.{Timing, period_of, start_of}
use Rattle.specification.specs.Solutions.{ε, δ, Ratios, Starts, IsSolution, Solution, LeastSolution, NoLeastSolution}
use Rattle.specification.specs.Hiding.{old_number, new_number}
use Rattle.specification.specs.HiddenTimes.{SameSolutions, SameTimes}
use Rattle.table.specs.WellFormed.{WellFormed}
use Rattle.hiding_laws.specs.PortNumbers.{old_of_new, new_below}
use Rattle.hiding_laws.specs.HiddenOf.{HiddenOf, old_port}
use Rattle.hiding_laws.specs.Restricted.{restricted}
use Rattle.hiding_laws.specs.Extended.{extension}
use Rattle.hiding_laws.specs.HiddenWeights.{hidden_weights}

-- starts that meet (2) at some periods meet it at equal ones
starts_≈ : {t : Table} {P Q S : ℕ → Rational} → WellFormed t → ((p : ℕ) → IsPort t p → P p ≈ Q p) → Starts t P S → Starts t Q S
starts_≈ {t} {S = S} formed same h = record {
  holds = λ k l some.
      let there = same (from t k) (record { below = (formed.links k l.a_link.below).from }) in
      ≼_trans (≈-≼ (⊕-≈ (≈_refl (S (from t k) ⊕ ε t k)) (⊗_left_≈ (δ t k some) (≈_sym there)))) (h.holds k l some);
}

with_starts : {t : Table} {P S T : ℕ → Rational} → IsSolution t P S → Starts t P T → IsSolution t P T
with_starts s h = record { above_zero = s.above_zero; ratios = s.ratios; starts = h; rates = s.rates }

module _ {t t' : Table} {p : ℕ} (formed : WellFormed t) (formed' : WellFormed t') (hidden : HiddenOf t t' p) where
  pub same_solutions : SameSolutions t t' p
  same_solutions = record {
    restrict = λ P S P' S' same sol. restricted formed hidden same sol;
    extend = λ P' S' sol. extension formed formed' hidden sol;
  }

  pub solution_there : Solution t → Solution t'
  solution_there s = record {
    period = λ r. s.period (old_number p r);
    start = λ r. s.start (old_number p r);
    meets = restricted formed hidden (record { period = λ r. refl; start = λ r. refl }) s.meets;
  }

  module _ {r r' : Timing} (least : LeastSolution t r) (least' : LeastSolution t' r') where
    same_periods : (q : ℕ) → IsPort t' q → period_of r' q ≈ period_of r (old_number p q)
    unfolding solution_there
    same_periods q i = ≼_antisym
        (least'.least_periods (solution_there (record { period = period_of r; start = start_of r; meets = least.solution })) q i)
        (let e = extension formed formed' hidden least'.solution in
        rw (← (e.same.period q)) at
        (least.least_periods (record { period = e.period; start = e.start; meets = e.solution }) (old_number p q) (old_port hidden q i)))

    -- periods of t that are those of r' without p are those of r
    module _ {P : ℕ → Rational} (same : (q : ℕ) → period_of r' q ≡ P (old_number p q)) (ratios : Ratios t P) where
      other_period : (q : ℕ) → IsPort t q → q ≢ p → P q ≈ period_of r q
      other_period q i n =
          let below : IsPort t' (new_number p q) = record {
            below = new_below p q (port_count t') n (omega (arith, hidden.count, hidden.a_port.below)) (omega (arith, hidden.count, i.below));
          } in
          rw (old_of_new p q n) at (rw (same (new_number p q)) at (same_periods (new_number p q) below))

      p_period : P p ≈ period_of r p
      p_period =
          let x = hidden.x in
          let i = hidden.slowed.into in
          let port : IsPort t (from t x) = record { below = (formed.links x i.a_link.below).from } in
          let new : num t x · P p ≈ den t x · P (from t x) = rw i.ends at (ratios.holds x i.a_link) in
          let old : num t x · period_of r p ≈ den t x · period_of r (from t x) = rw i.ends at (least.solution.ratios.holds x i.a_link) in
          ·_cancel_≈ (num t x) (formed.links x i.a_link.below).num.least
          (≈_trans new (≈_trans (·-≈ (den t x) (other_period (from t x) port i.other)) (≈_sym old)))

      every_period : (q : ℕ) → IsPort t q → Dec (q ≡ p) → P q ≈ period_of r q
      every_period q i (yes e) = rw e p_period
      every_period q i (no n) = other_period q i n

    pub same_times : SameTimes t t' p r r'
    same_times = record {
      periods = same_periods;
      starts_there = λ S h.
          starts_≈ formed' (λ q i. ≈_sym (same_periods q i))
          (restricted formed hidden (record { period = λ q. refl; start = λ q. refl }) (with_starts least.solution h)).starts;
      starts_back = λ S' h.
          let e = extension formed formed' hidden (with_starts least'.solution h) in
          record {
            start = e.start;
            meets = starts_≈ formed (λ q i. every_period e.same.period e.solution.ratios q i (ℕ_discrete q p)) e.solution.starts;
            same = e.same.start;
          };
    }

  -- 14 comes from no larger weights
  pub not_overweight : {w : ℕ → ℕ} → SmallWeights t w → ¬ Overweight t'
  not_overweight h o = omega (
    arith,
    o.passes,
    hidden_weights formed formed' hidden h.weights o.weights o.at o.a_port,
    h.small (old_number p o.at) (old_port hidden o.at o.a_port),
  )

  -- 17: a smaller period of the hidden table would be one of the table
  pub not_no_least : {r : Timing} → LeastSolution t r → ¬ NoLeastSolution t'
  unfolding solution_there
  not_no_least {r} least n =
      let q = n.p in
      let s = n.smaller (solution_there (record { period = period_of r; start = start_of r; meets = least.solution })) in
      let e = extension formed formed' hidden s.other.meets in
      let most = least.least_periods (record { period = e.period; start = e.start; meets = e.solution }) (old_number p q) (old_port hidden q n.a_port) in
      ≼_not_≺ (rw (← (e.same.period q)) at most) s.less
