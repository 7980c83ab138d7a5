-- A component without edges: its period is the greatest of its rate limits, and its ports start at 0. Without a rate it has no least
-- period.
use Rattle.std.specs.Prelude.{ℕ, ◌*◌, ◌/◌, ◌≤◌, ◌<◌, ◌≡◌, refl, List, length, Some, None}
use Rattle.std.proofs.Common.{inl, arith}
use Rattle.numbers.specs.Lists.{◌∈◌, sum}
use Rattle.specification.specs.Periods.{Graph, Walk, stop, step, gain, loss, LeastStarts, Serves, Period, ZeroFloor, NoLeast}
use Rattle.period.specs.Component.{graph_of, Component}
use Rattle.period.specs.Greatest.{GreatestLimit}
use Rattle.period.specs.JustAbove.{no_least_above_zero}
use Rattle.period.specs.Search.{SmallPeriod}
use Rattle.period.specs.declared.limit.Limit.{Limit}

-- without edges a walk stays where it is
idle_walk : {g : Graph} {p q : ℕ} {path : List ℕ} (x y : ℕ → ℕ) → ((k : ℕ) → ¬ g.IsEdge k) → Walk g p q path → sum x path ≡ sum y path
idle_walk x y none stop = refl
idle_walk x y none (step k m w) = absurd (none k m)

no_edge : (edges : List ℕ) → length edges ≡ 0 → (k : ℕ) → ¬ (k < length edges / 6)
no_edge edges none k h = omega arith

module _ {ports limits edges : List ℕ} (c : Component ports limits edges) (none : length edges ≡ 0) where
  -- no cycle is positive
  idle_serves : {a b : ℕ} → ((p : ℕ) → p ∈ ports → (graph_of ports limits edges).limit_num p * b ≤ (graph_of ports limits edges).limit_den p * a)
      → Serves (graph_of ports limits edges) a b
  idle_serves {a} {b} rates =
      let g = graph_of ports limits edges in
      record { rates = rates; cycles = λ p path w. omega (arith, idle_walk (gain g a b) (loss g a b) (no_edge edges none) w) }

  -- the greatest rate limit, where there is one
  pub idle_period : {l : Limit} → GreatestLimit ports limits (Some l) → Period (graph_of ports limits edges) l.value.num l.value.den
  idle_period {l} g = record {
    above_zero = g.above_zero;
    over = g.over;
    lowest = g.lowest;
    serves = idle_serves g.greatest;
    limit = inl (l.port, record { a_port = g.limit.a_port; rated = g.limit.rated; exact = g.limit.exact });
  }

  pub idle_starts : {a b : ℕ} {S : ℕ → ℕ} → ((p : ℕ) → p ∈ ports → S p ≡ 0) → LeastStarts (graph_of ports limits edges) a b S
  idle_starts zero = record {
    meets = record { holds = λ k m. absurd (no_edge edges none k m) };
    least = λ T m p i. omega (arith, zero p i);
  }

  pub idle_no_least : GreatestLimit ports limits None → NoLeast (graph_of ports limits edges)
  idle_no_least z =
      let zero : ZeroFloor (graph_of ports limits edges) = record { unrated = z.unrated } in
      no_least_above_zero c zero (idle_serves (λ p m. rw (c.small_limits.unrated p m (z.unrated p m)) (omega arith)))

pub limit_small : {ports limits : List ℕ} {l : Limit} → GreatestLimit ports limits (Some l) → SmallPeriod l.value.num l.value.den
limit_small g = record { num = omega (arith, g.small_num); den = omega (arith, g.small_den) }
