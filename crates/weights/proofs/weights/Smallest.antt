-- The numbers of the rows less the least rows are the weights.
use Prim.Native.Nat.{ℕ, ◌*◌}
use mathlib.Core.Path.{◌≡◌, refl, ap}
use mathlib.Core.List.{List}
use native.Mathlib.Nat.{eq_of_mul-eq-mul_right}
use native.Mathlib.Omega.{arith}
use lib.ListN.{get_or}
use Rattle.numbers.specs.Divisors.{Divides}
use Rattle.numbers.specs.Prime.{IsPrime}
use Rattle.exponents.specs.Primes.{prime_at}
use Rattle.exponents.specs.Row.{row_value}
use Rattle.exponents.specs.RowLaws.{row_positive, prime_in_row, exponent_positive}
use Rattle.specification.specs.Table.{Table, port_count, IsPort, IsLink, from, to, num, den}
use Rattle.specification.specs.Ratios.{Joined, Proportional, Weights}
use Rattle.ways.specs.WayLaws.{linked, joined_refl, joined_sym, joined_trans, joined_component, component_unique}
use Rattle.ways.specs.WeightLaws.{smallest_by_primes}
use Rattle.forest.specs.PortRows.{row_of, value_of}
use Rattle.weights.specs.LeastRows.{Attained, LeastRows}
use Rattle.weights.specs.Weighed.{Weighing}
use Rattle.weights.proofs.weights.Difference.{difference, difference_place, difference_value}

-- the row of port p less the least row of its component, and its number
abbrev rest : List ℕ → List (List ℕ) → List (List ℕ) → ℕ → List ℕ
rest labels rows least p = difference (row_of rows p) (row_of least (get_or labels p 0))

abbrev pub weight_of : List ℕ → List (List ℕ) → List (List ℕ) → ℕ → ℕ
weight_of labels rows least p = row_value (rest labels rows least p)

module _ {t : Table} {labels : List ℕ} {rows least : List (List ℕ)} (g : Weighing t labels rows)
    (l : LeastRows t labels rows (port_count t) least) where
  abbrev w : ℕ → ℕ
  w = weight_of labels rows least

  weight_value : {p c : ℕ} → IsPort t p → get_or labels p 0 ≡ c → w p * value_of least c ≡ value_of rows p
  weight_value {p} i e = rw (← e) (difference_value (l.least p i.below))

  link_label : {k : ℕ} → IsLink t k → IsPort t (from t k) → IsPort t (to t k) → get_or labels (from t k) 0 ≡ get_or labels (to t k) 0
  link_label {k} i a b =
      component_unique (joined_component (linked i) (g.components.each (from t k) a)) (g.components.each (to t k) b)

  weight_fits : (k : ℕ) → IsLink t k → w (to t k) * num t k ≡ w (from t k) * den t k
  weight_fits k i =
      let a : IsPort t (from t k) = record { below = (g.well_formed.links k i.below).from } in
      let b : IsPort t (to t k) = record { below = (g.well_formed.links k i.below).to } in
      let v : ℕ = value_of least (get_or labels (to t k) 0) in
      eq_of_mul-eq-mul_right v (row_positive (row_of least (get_or labels (to t k) 0))) (w (to t k) * num t k) (w (from t k) * den t k)
      (omega (
        arith,
        ap (λ (n : ℕ). n * num t k) (weight_value b refl),
        ap (λ (n : ℕ). n * den t k) (weight_value a (link_label i a b)),
        (g.fits k i).fits,
      ))

  weight_proportional : Proportional t w
  weight_proportional = record { positive = λ p i. row_positive (rest labels rows least p); fits = weight_fits }

  -- ports of one label are joined
  label_joined : {p q : ℕ} → IsPort t p → IsPort t q → get_or labels q 0 ≡ get_or labels p 0 → Joined t p q
  label_joined {p} {q} i j e =
      joined_trans (g.components.each p i).joined (joined_sym (rw e at (g.components.each q j).joined))

  -- where the least exponent is attained the prime does not divide
  no_common_prime : (p d : ℕ) → IsPort t p → IsPrime d → ¬ ((q : ℕ) → Joined t p q → Divides d (w q))
  no_common_prime p d i prime every =
      let found = prime_in_row (rest labels rows least p) prime (every p (joined_refl p)) in
      let a : Attained t labels rows (get_or labels p 0) found.place (get_or (row_of least (get_or labels p 0)) found.place 0) =
      l.attained p found.place i found.below in
      let divides : Divides (prime_at found.place) (w a.at) =
      rw found.is (every a.at (label_joined i a.a_port a.label)) in
      omega (
        arith,
        exponent_positive (rest labels rows least a.at) found.place found.below divides,
        difference_place (row_of rows a.at) (row_of least (get_or labels a.at 0)) found.place,
        a.is,
        ap (λ (c : ℕ). get_or (row_of least c) found.place 0) a.label,
      )

  pub rows_weights : Weights t w
  rows_weights = smallest_by_primes g.well_formed weight_proportional no_common_prime
