-- The loop that a link closes in a forest whose links the rows fit: where the rows do not fit that link, its ratios disagree.
use Rattle.std.specs.Prelude.{ℕ, ◌*◌, ◌≡◌, refl, false, List, ◌∷◌, map}
use Rattle.std.proofs.Common.{ap, arith}
use Rattle.std.proofs.Math.Nat.{eq_of_mul-eq-mul_right}
use Rattle.numbers.specs.Lists.{◌∈◌}
use Rattle.table.specs.WellFormed.{WellFormed}
use Rattle.specification.specs.Table.{Table, from, to, num, den}
use Rattle.specification.specs.Ratios.{Step, Way, walk, above, below}
use Rattle.ways.specs.WayLaws.{above_positive}
use Rattle.ways.specs.WeightLaws.{fitting_way}
use Rattle.forest.specs.PortRows.{value_of, Fits}

module _ {t : Table} (rows : List (List ℕ)) (formed : WellFormed t) (k : ℕ) (rest : List Step) where
  -- the way behind the first step of a loop
  behind : {p q : ℕ} {s : Step} → Way t p q (s ∷ rest) → s ≡ record { number = k; against = false } → Way t (to t k) q rest
  behind (walk s i v) e = rw e at v

  pub loop_unequal : Way t (from t k) (from t k) (record { number = k; against = false } ∷ rest)
      → ((j : ℕ) → j ∈ map (λ x. x.number) rest → Fits t rows j)
      → ¬ Fits t rows k
      → ¬ (above t (record { number = k; against = false } ∷ rest) ≡ below t (record { number = k; against = false } ∷ rest))
  loop_unequal way fit conflict e =
      let v = behind way refl in
      let along = fitting_way t (value_of rows) v (λ j i m. (fit j m).fits) in
      conflict (record {
        fits =
            eq_of_mul-eq-mul_right (above t rest) (above_positive formed v) (value_of rows (to t k) * num t k) (value_of rows (from t k) * den t k)
            (omega (arith, ap (λ (n : ℕ). n * den t k) along, ap (λ (n : ℕ). n * value_of rows (to t k)) e));
      })
