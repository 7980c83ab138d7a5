-- Laws of proportional weights: their ratios along ways, and when they are the smallest.
use Rattle.std.specs.Prelude.{ℕ, ◌*◌, ◌≤◌, ◌<◌, Bool, true, false, cond, ◌≡◌, refl, List, ◌∷◌, map}
use Rattle.std.proofs.Common.{sym, ap, le_antisymm, le-mul_of_pos_right, arith}
use mathlib.Core.List.Memᴰ.{head as here}
use mathlib.Core.List.Memᴰ.{tail as there}
use Rattle.std.proofs.Math.Nat.{eq_of_mul-eq-mul_left, eq_of_mul-eq-mul_right}
use Rattle.numbers.specs.Divisors.{Divides}
use Rattle.numbers.specs.DivisorLaws.{divides_trans}
use Rattle.numbers.specs.Gcd.{coprime_sym, gauss}
use Rattle.numbers.specs.Prime.{IsPrime, least_divisor_lem, least_divisor_prime}
use Rattle.fraction.specs.Lowest.{lowest_terms, lowest_is, lowest_above_zero}
use Rattle.numbers.specs.Lists.{◌∈◌}
use Rattle.table.specs.WellFormed.{WellFormed}
use Rattle.specification.specs.Table.{Table, IsPort, IsLink, from, to, num, den}
use Rattle.specification.specs.Ratios.{Step, leaves, Way, stay, walk, above, below, Joined, Proportional, Weights}
use Rattle.ways.specs.Agree.{Agree}
use Rattle.ways.specs.WayLaws.{above_positive, step_port}

-- ---- along ways
module _ (t : Table) (w : ℕ → ℕ) where
  step_fits : (k : ℕ) (b : Bool) → w (to t k) * num t k ≡ w (from t k) * den t k
      → w (cond b (from t k) (to t k)) * cond b (den t k) (num t k) ≡ w (cond b (to t k) (from t k)) * cond b (num t k) (den t k)
  step_fits k true f = sym f
  step_fits k false f = f

  -- numbers that fit every link of a way, as (1) asks of the periods, stand to each other as its ratio
  pub fitting_way : {p q : ℕ} {path : List Step} → Way t p q path
      → ((k : ℕ) → IsLink t k → k ∈ map (λ x. x.number) path → w (to t k) * num t k ≡ w (from t k) * den t k)
      → w q * above t path ≡ w p * below t path
  fitting_way stay f = refl
  fitting_way (walk {path = path} s i v) f = omega (
    arith,
    ap (λ (n : ℕ). n * cond s.against (den t s.number) (num t s.number)) (fitting_way v (λ k l m. f k l (there m))),
    ap (λ (n : ℕ). n * below t path) (step_fits s.number s.against (f s.number i (here refl))),
  )

module _ {t : Table} {w : ℕ → ℕ} (prop : Proportional t w) where
  pub proportional_way : {p q : ℕ} {path : List Step} → Way t p q path → w q * above t path ≡ w p * below t path
  proportional_way v = fitting_way t w v (λ k i m. prop.fits k i)

  proportional_closed : {p q : ℕ} {path : List Step} → WellFormed t → Way t p q path → p ≡ q → above t path ≡ below t path
  proportional_closed formed stay e = refl
  proportional_closed formed (walk {q = q} {path = path} s i v) e =
      eq_of_mul-eq-mul_left (w q) (rw e at (prop.positive (leaves t s) (step_port formed s i))) (above t (s ∷ path)) (below t (s ∷ path))
      (omega (arith, proportional_way (walk s i v), ap (λ (n : ℕ). w n * below t (s ∷ path)) e))

  pub proportional_agree : WellFormed t → Agree t
  proportional_agree formed = record { closed = λ p path v. proportional_closed formed v refl }

-- ---- a closed way of another ratio than 1
module _ {t : Table} {p : ℕ} {path : List Step} (way : Way t p p path) (differ : ¬ (above t path ≡ below t path)) where
  pub disagreeing : ¬ Agree t
  disagreeing h = differ (h.closed p path way)

  pub no_proportion : {w : ℕ → ℕ} → WellFormed t → ¬ Proportional t w
  no_proportion formed h = disagreeing (proportional_agree h formed)

-- ---- two proportional weights
pub weights_unique : {t : Table} {w v : ℕ → ℕ} → Weights t w → Weights t v → (p : ℕ) → IsPort t p → w p ≡ v p
weights_unique {w = w} {v = v} h k p i = le_antisymm (h.smallest v k.proportional p i) (k.smallest w h.proportional p i)

pub joined_proportion : {t : Table} {w v : ℕ → ℕ} {p q : ℕ} → Proportional t w → Proportional t v → WellFormed t → Joined t p q
    → w p * v q ≡ v p * w q
joined_proportion {t} {w} {v} {p} {q} h k formed j =
    eq_of_mul-eq-mul_right (above t j.path) (above_positive formed j.way) (w p * v q) (v p * w q)
    (omega (
      arith,
      ap (λ (n : ℕ). v p * n) (proportional_way h j.way),
      ap (λ (n : ℕ). w p * n) (proportional_way k j.way),
    ))

-- ---- the smallest weights
module _ {t : Table} {w : ℕ → ℕ} (formed : WellFormed t) (prop : Proportional t w) where
  -- v p / w p in lowest terms is x / y; y divides the weight of every port joined to p
  pub denominator_divides : {v : ℕ → ℕ} (p q : ℕ) → Proportional t v → IsPort t p → Joined t p q
      → Divides (lowest_terms (v p) (w p)).den (w q)
  denominator_divides {v} p q k i j =
      let low = lowest_is (v p) (w p) (prop.positive p i) in
      let x : ℕ = (lowest_terms (v p) (w p)).num in
      let y : ℕ = (lowest_terms (v p) (w p)).den in
      gauss (w q) (coprime_sym low.lowest) (record {
        quotient = v q;
        is =
            eq_of_mul-eq-mul_right (w p) (prop.positive p i) (x * w q) (y * v q)
            (omega (arith, ap (λ (n : ℕ). n * w q) low.equal, ap (λ (n : ℕ). n * y) (joined_proportion prop k formed j)));
      })

  -- no number above 1 divides the weights of all ports joined to one
  pub smallest_by_divisors : ((p d : ℕ) → IsPort t p → 1 < d → ¬ ((q : ℕ) → Joined t p q → Divides d (w q))) → Weights t w
  smallest_by_divisors none = record { proportional = prop; smallest = least }
    where
      least : (v : ℕ → ℕ) → Proportional t v → (p : ℕ) → IsPort t p → w p ≤ v p
      least v k p i =
          let low = lowest_is (v p) (w p) (prop.positive p i) in
          let y : ℕ = (lowest_terms (v p) (w p)).den in
          let small : ¬ (1 < y) = λ h. none p y i h (λ q j. denominator_divides p q k i j) in
          let one : y ≡ 1 = omega (arith, low.over) in
          omega (
            arith,
            low.equal,
            ap (λ (n : ℕ). v p * n) one,
            le-mul_of_pos_right (w p) (lowest_above_zero (k.positive p i) (prop.positive p i)),
          )

  pub smallest_by_primes : ((p d : ℕ) → IsPort t p → IsPrime d → ¬ ((q : ℕ) → Joined t p q → Divides d (w q))) → Weights t w
  smallest_by_primes none = smallest_by_divisors λ p d i h every.
      let (m, least) = least_divisor_lem d h in
      none p m i (least_divisor_prime least) (λ q j. divides_trans least.holds.divides (every q j))
