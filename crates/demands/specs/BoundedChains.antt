-- Demand 3's first half: no chain is later than its port's start and k periods.
use Rattle.std.specs.Prelude.{ℕ, suc, ◌+◌, ◌*◌, ◌/◌, ◌≤◌, ◌<◌, ◌≡◌}
use Rattle.std.proofs.Common.{ap, div-mul-le_self, mul-le-mul_right, le_of_mul-le-mul_right, mul-pos, arith}
use Rattle.numbers.specs.Rationals.{Rational, ◌≼◌, ◌⊕◌, ◌·◌, share}
use Rattle.table.specs.WellFormed.{WellFormed}
use Rattle.specification.specs.Table.{Table, port, IsPort, IsLink, from, to, num, den, IsConnection, IsBuffer, ε⁺, ε⁻, δ°}
use Rattle.ways.specs.WayLaws.{linked}
use Rattle.specification.specs.Ratios.{weighed⁺, weighed⁻}
use Rattle.specification.specs.Periods.{ConnectionIn}
use Rattle.specification.specs.Answers.{Timing, period_of, start_of, Consistent}
use Rattle.specification.specs.Solutions.{ε}
use Rattle.specification.specs.Chains.{WaitsFor, Chain, first, spacing, free_spacing, connection, buffer, Bounded}
use Rattle.demands.specs.ConstraintLaws.{from_port, to_port, forward_whole, back_whole}
use Rattle.demands.specs.SamePeriod.{same_period}

-- a time at most the start of p and k of its periods, by products
record Within (r : Timing) (p k : ℕ) (time : Rational) : Type 0 where
  holds : time.plus * r.b p ≤ (r.start p + k * (r.weight p * r.a p)) * time.over + time.minus * r.b p

-- event m of link n's sender, and ε, come no later than event k of its receiver, over the b that they share
record NoLater (t : Table) (r : Timing) (n k m : ℕ) : Type 0 where
  holds : r.start (from t n) + m * (r.weight (from t n) * r.a (from t n)) + ε⁺ t n * r.b (from t n)
      ≤ r.start (to t n) + k * (r.weight (to t n) * r.a (from t n)) + ε⁻ t n * r.b (from t n)

within_bound : {r : Timing} {p k : ℕ} {time : Rational} → Within r p k time → time ≼ start_of r p ⊕ k · period_of r p
within_bound {r} {p} h = record { holds = omega (arith, mul-le-mul_right (r.b p) h.holds) }

-- a port without a rate waits for nothing between its events
within_next : {r : Timing} {p k : ℕ} {time : Rational} → Within r p k time → Within r p (suc k) time
within_next h = record { holds = omega (arith, h.holds) }

module _ {t : Table} {r : Timing} (formed : WellFormed t) (right : Consistent t r) where
  chain_port : {p k : ℕ} {time : Rational} → Chain t r.size p k time → IsPort t p
  chain_port (first p k i) = i
  chain_port (spacing c some) = chain_port c
  chain_port (free_spacing c none) = chain_port c
  chain_port (connection n k i c e) = to_port formed n i.a_link
  chain_port (buffer n k i c e) = to_port formed n i.a_link

  within_spacing : {p k : ℕ} {time : Rational} → IsPort t p → (some : 0 < (port t p).num) → Within r p k time
      → Within r p (suc k) (time ⊕ share (port t p).den (port t p).num some)
  within_spacing {p} {time = time} i some h = record {
    holds = omega (
      arith,
      mul-le-mul_right (port t p).num h.holds,
      mul-le-mul_right time.over ((right.periods p i).serves.rates p (record { a_port = i; component = right.components p i })),
    );
  }

  -- the sender's event times its weight is at most the receiver's, by (1)
  floor_below : (n k : ℕ) → IsLink t n → k * den t n / num t n * r.weight (from t n) ≤ k * r.weight (to t n)
  floor_below n k i = le_of_mul-le-mul_right {k = num t n} (omega (
    arith,
    mul-le-mul_right (r.weight (from t n)) (div-mul-le_self (k * den t n) (num t n)),
    ap (λ (x : ℕ). k * x) (right.weights.weights.proportional.fits n i),
  )) (formed.links n i.below).num.least

  -- the same with δ, as one sum: D is δ times the sender's weight
  event_below : (n k m : ℕ) → IsLink t n → WaitsFor t n k m
      → m * r.weight (from t n) + weighed⁻ t r.weight n / δ° t n ≤ k * r.weight (to t n) + weighed⁺ t r.weight n / δ° t n
  event_below n k m i h =
      let whole = right.weights.weights.whole in
      le_of_mul-le-mul_right {k = num t n * δ° t n} (omega (
        arith,
        mul-le-mul_right (r.weight (from t n)) h.rounded.low.holds,
        ap (λ (x : ℕ). k * x * δ° t n) (right.weights.weights.proportional.fits n i),
        ap (λ (x : ℕ). x * num t n) (forward_whole whole n i),
        ap (λ (x : ℕ). x * num t n) (back_whole whole n i),
      )) (mul-pos h.ratio_some h.over_some)

  connection_no_later : {n k m : ℕ} → IsConnection t n → WaitsFor t n k m → NoLater t r n k m
  connection_no_later {n} {k} {m} i e =
      let port = from_port formed n i.a_link in
      let inside : ConnectionIn t (r.component (from t n)) n = record { connection = i; component = right.components (from t n) port } in
      record {
        holds = omega (
          arith,
          (right.starts (from t n) port).meets.holds n inside,
          mul-le-mul_right (r.a (from t n)) (event_below n k m i.a_link e),
        );
      }

  buffer_no_later : {n k m : ℕ} → IsBuffer t n → m + r.size n ≡ k * den t n / num t n → NoLater t r n k m
  buffer_no_later {n} {k} i e = record {
    holds = omega (
      arith,
      (right.sizes n i).enough.holds,
      mul-le-mul_right (r.a (from t n)) (floor_below n k i.a_link),
      ap (λ (x : ℕ). x * (r.weight (from t n) * r.a (from t n))) e,
    );
  }

  -- from event m of the sender along link n to event k of the receiver
  within_link : (n k m : ℕ) {time : Rational} → IsLink t n → NoLater t r n k m → Within r (from t n) m time → Within r (to t n) k (time ⊕ ε t n)
  within_link n k m {time} i later h =
      let same = same_period right (from_port formed n i) (to_port formed n i) (linked i) in
      record { holds = rw (← same.a, ← same.b) (omega (arith, h.holds, mul-le-mul_right time.over later.holds)) }

  within : {p k : ℕ} {time : Rational} → Chain t r.size p k time → Within r p k time
  within (first p k i) = record { holds = omega arith }
  within (spacing c some) = within_spacing (chain_port c) some (within c)
  within (free_spacing c none) = within_next (within c)
  within (connection {m = m} n k i c e) = within_link n k m i.a_link (connection_no_later i e) (within c)
  within (buffer {m = m} n k i c e) = within_link n k m i.a_link (buffer_no_later i e) (within c)

  pub bounded_chains : Bounded t r.size (period_of r) (start_of r)
  bounded_chains = record { bound = λ c. within_bound (within c) }
