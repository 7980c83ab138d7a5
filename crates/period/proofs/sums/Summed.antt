-- E and D of the first edges of a path.
use Prim.Native.Nat.{ℕ, ◌+◌, ◌*◌, ◌/◌, ◌≤◌, ◌<◌}
use mathlib.Core.List.{List, []}
use native.Mathlib.Omega.{arith}
use lib.ListN.{length, get_or}
use Rattle.numbers.specs.Taken.{member_at}
use Rattle.period.specs.Component.{graph_of, most_amount}
use Rattle.period.specs.Edges.{EdgeAt}
use Rattle.period.specs.Sums.{Summing, SumsOf}
use Rattle.period.specs.declared.edge.Edge.{Edge}
use Rattle.period.proofs.sums.Total.{Total, total_none, total_more, total_all}

-- no part of edge k is large
pub record SmallEdge (edges : List ℕ) (k : ℕ) : Type 0 where
  pub is_edge : k < length edges / 6
  pub ticks_forward_lem : get_or edges (6 * k + 2) 0 ≤ most_amount
  pub ticks_back_lem : get_or edges (6 * k + 3) 0 ≤ most_amount
  pub events_forward : get_or edges (6 * k + 4) 0 ≤ most_amount
  pub events_back : get_or edges (6 * k + 5) 0 ≤ most_amount

pub small_edge : {edges path : List ℕ} {i : ℕ} → Summing edges path → i < length path → SmallEdge edges (get_or path i 0)
small_edge {edges} {path} {i} s more =
    let k = get_or path i 0 in
    let e = s.edges_of_lem k (member_at path i more) in
    record {
      is_edge = e;
      ticks_forward_lem = s.small.ticks_forward_lem k e;
      ticks_back_lem = s.small.ticks_back_lem k e;
      events_forward = s.small.events_forward k e;
      events_back = s.small.events_back k e;
    }

-- the four sums over the first i edges
pub record Summed (edges path : List ℕ) (i ticks⁺ ticks⁻ events⁺ events⁻ : ℕ) : Type 0 where
  pub within : i ≤ length path
  pub ticks_forward_lem : Total (graph_of [] [] edges).E⁺ path i ticks⁺
  pub ticks_back_lem : Total (graph_of [] [] edges).E⁻ path i ticks⁻
  pub events_forward : Total (graph_of [] [] edges).D⁺ path i events⁺
  pub events_back : Total (graph_of [] [] edges).D⁻ path i events⁻

pub summed_none : (edges path : List ℕ) → Summed edges path 0 0 0 0 0
summed_none edges path = record {
  within = omega arith;
  ticks_forward_lem = total_none _ path;
  ticks_back_lem = total_none _ path;
  events_forward = total_none _ path;
  events_back = total_none _ path;
}

pub summed_more : {edges path : List ℕ} {i ticks⁺ ticks⁻ events⁺ events⁻ : ℕ} {r : Edge} → Summing edges path → Summed edges path i ticks⁺ ticks⁻ events⁺ events⁻
    → i < length path
    → EdgeAt edges (get_or path i 0) r
    → Summed edges path (i + 1) (ticks⁺ + r.ticks.0) (ticks⁻ + r.ticks.1) (events⁺ + r.events.0) (events⁻ + r.events.1)
summed_more s t more at =
    let e = small_edge s more in
    record {
      within = omega arith;
      ticks_forward_lem = rw at.ticks_forward_lem (total_more t.ticks_forward_lem more e.ticks_forward_lem);
      ticks_back_lem = rw at.ticks_back_lem (total_more t.ticks_back_lem more e.ticks_back_lem);
      events_forward = rw at.events_forward (total_more t.events_forward more e.events_forward);
      events_back = rw at.events_back (total_more t.events_back more e.events_back);
    }

pub summed_all : {edges path : List ℕ} {i ticks⁺ ticks⁻ events⁺ events⁻ : ℕ} → Summed edges path i ticks⁺ ticks⁻ events⁺ events⁻ → length path ≤ i
    → SumsOf edges path (record { ticks = (ticks⁺, ticks⁻); events = (events⁺, events⁻) })
summed_all t done = record {
  ticks_forward_lem = total_all t.ticks_forward_lem done;
  ticks_back_lem = total_all t.ticks_back_lem done;
  events_forward = total_all t.events_forward done;
  events_back = total_all t.events_back done;
}
