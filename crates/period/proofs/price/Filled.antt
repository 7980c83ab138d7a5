-- Prices at the front of a buffer, of the edges so far.
use Prim.Native.Nat.{ℕ, suc, ◌+◌, ◌*◌, ◌/◌, ◌≤◌, ◌<◌}
use mathlib.Core.Path.{◌≡◌, refl, ◌∙◌}
use mathlib.Core.List.{List, [], ◌∷◌, ◌++◌}
use native.Mathlib.Omega.{arith}
use native.Mathlib.Numerals.{add-one}
use lib.ListN.{length, set, take, length-append, length-set}
use lib.Seq.{sets, sets-eq, length-take-le, take_at}
use Rattle.specification.specs.declared.Ticks.{Ticks}
use Rattle.period.specs.Delay.{delay_at, SmallDelay}
use Rattle.period.specs.Edges.{EdgeAt}
use Rattle.period.specs.Prices.{prices_to, Pricing, PricesMade}
use Rattle.period.specs.declared.edge.Edge.{Edge}

-- the prices of the first k of n edges stand at the front of costs, which began as costs₀
pub record Filled (edges : List ℕ) (n a b : ℕ) (costs₀ costs : List ℕ) (k : ℕ) : Type 0 where
  pub counted : length edges / 6 ≡ n
  pub within : k ≤ n
  pub same : length costs ≡ length costs₀
  pub made : take (4 * k) costs ≡ prices_to edges a b k

-- the front of a list, up to the end of what was stored
take_sets : (l : List ℕ) (i n : ℕ) (vs : List ℕ) → n ≡ i + length vs → n ≤ length l → take n (sets l i vs) ≡ take i l ++ vs
take_sets l i n vs e h =
    rw (sets-eq vs l i (omega arith))
    (take_at (take i l ++ vs) _ n (length-append (take i l) vs ∙ omega (arith, length-take-le i l (omega arith))))

module _ {edges costs₀ : List ℕ} {n a b : ℕ} where
  pub filled_none : length edges / 6 ≡ n → Filled edges n a b costs₀ costs₀ 0
  unfolding prices_to
  filled_none e = record { counted = e; within = omega arith; same = refl; made = refl }

  pub filled_small : {k : ℕ} {r : Edge} {costs : List ℕ} → Pricing edges a b costs₀ → Filled edges n a b costs₀ costs k → k < n → EdgeAt edges k r
      → SmallDelay r.ticks r.events a b
  filled_small {k} p f l e =
      let is_edge : k < length edges / 6 = omega (arith, f.counted) in
      record {
        ticks_forward_lem = rw e.ticks_forward_lem (p.small.ticks_forward_lem k is_edge);
        ticks_back_lem = rw e.ticks_back_lem (p.small.ticks_back_lem k is_edge);
        events_forward = rw e.events_forward (p.small.events_forward k is_edge);
        events_back = rw e.events_back (p.small.events_back k is_edge);
        small = p.small_period;
      }

  pub filled_on : {costs : List ℕ} {k : ℕ} {r : Edge} {cost : Ticks} → Pricing edges a b costs₀ → Filled edges n a b costs₀ costs k → k < n
      → EdgeAt edges k r
      → cost ≡ delay_at r.ticks r.events a b
      → Filled edges n a b costs₀ (set (set (set (set costs (4 * k) r.from) (4 * k + 1) r.to) (4 * k + 2) cost.0) (4 * k + 3) cost.1) (k + 1)
  unfolding prices_to
  filled_on {costs} {k} {r} {cost} p f l e delay =
      let vs = r.from ∷ r.to ∷ cost.0 ∷ cost.1 ∷ [] in
      let e1 : 4 * k + 1 ≡ suc (4 * k) = omega arith in
      let e2 : 4 * k + 2 ≡ suc (suc (4 * k)) = omega arith in
      let e3 : 4 * k + 3 ≡ suc (suc (suc (4 * k))) = omega arith in
      record {
        counted = f.counted;
        within = omega arith;
        same = simp length-set f.same;
        made = rw (
          e1,
          e2,
          e3,
          take_sets costs (4 * k) (4 * (k + 1)) vs (omega arith) (omega arith),
          f.made,
          add-one k,
          delay,
          e.from,
          e.to,
          e.ticks_forward_lem,
          e.ticks_back_lem,
          e.events_forward,
          e.events_back,
        );
      }

  pub filled_all : {costs : List ℕ} {k : ℕ} → Filled edges n a b costs₀ costs k → n ≤ k → PricesMade edges a b costs₀ costs
  filled_all {costs} {k} f l =
      let e : length edges / 6 ≡ k = omega arith in
      record { made = rw e f.made; same_length = f.same }
