-- Hiding a port of a consistent model gives a consistent model, with the same times of the other ports.
use Rattle.std.specs.Prelude.{ℕ, ◌≡◌, refl, ◌≢◌, ◌⊎◌}
use Rattle.std.proofs.Common.{⊎_elim, arith}
use Rattle.specification.specs.Table.{Table}
use Rattle.specification.specs.Answers.{
  Timing,
  Answer,
  refused,
  disagreeing,
  overweight,
  blocked,
  no_least,
  consistent,
  number,
  Consistent,
  Right,
}
use Rattle.specification.specs.Solutions.{Solution, LeastSolution}
use Rattle.specification.specs.HiddenTimes.{SameTimes}
use Rattle.table.specs.WellFormed.{WellFormed}
use Rattle.demands.specs.Demand2Laws.{demand_2}
use Rattle.hiding_laws.specs.HiddenOf.{HiddenOf}
use Rattle.hiding_laws.specs.SameTimes.{solution_there, same_times, not_overweight, not_no_least}

neither : {n : ℕ} → n ≢ 0 → n ≢ 17 → ¬ ((n ≡ 0) ⊎ (n ≡ 17))
neither a b h = ⊎_elim a b h

module _ {t t' : Table} {p : ℕ} (formed : WellFormed t) (formed' : WellFormed t') (hidden : HiddenOf t t' p) where
  module _ {r : Timing} (h : Consistent t r) where
    least : LeastSolution t r
    least = (demand_2 {x = consistent r} formed h).least r refl

    solved : Solution t'
    solved = solution_there formed formed' hidden (record { period = _; start = _; meets = least.solution })

    pub number_kept : (x : Answer) → Right t' x → number x ≡ 0
    number_kept (refused n) k = absurd k
    number_kept (disagreeing loop) k =
        absurd (neither (λ e. omega (arith, e)) (λ e. omega (arith, e)) ((demand_2 {x = disagreeing loop} formed' k).only solved (λ e. omega (arith, e))))
    number_kept overweight k = absurd (not_overweight formed formed' hidden h.weights k)
    number_kept (blocked floor block) k =
        absurd (neither (λ e. omega (arith, e)) (λ e. omega (arith, e)) ((demand_2 {x = blocked floor block} formed' k).only solved (λ e. omega (arith, e))))
    number_kept no_least k = absurd (not_no_least formed formed' hidden least ((demand_2 {x = no_least} formed' k).no_least_lem refl))
    number_kept (consistent r') k = refl

  pub times_kept : {r r' : Timing} → Consistent t r → Consistent t' r' → SameTimes t t' p r r'
  times_kept {r} {r'} h k = same_times formed formed' hidden (least h) ((demand_2 {x = consistent r'} formed' k).least r' refl)
