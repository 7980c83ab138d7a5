-- A graph whose edges are numbered anew: what holds of it holds of the graph with the old numbers.
use Rattle.std.specs.Prelude.{ℕ, ◌≡◌}
use Rattle.specification.specs.Periods.{Graph}

-- edge i of g is edge f i of h, and h has no other edges; the ports and their limits are the same
pub record Numbered (g h : Graph) (f : ℕ → ℕ) : Type 0 where
  pub port : (p : ℕ) → g.IsPort p → h.IsPort p
  pub port_back : (p : ℕ) → h.IsPort p → g.IsPort p
  pub limit_num_lem : (p : ℕ) → h.IsPort p → g.limit_num p ≡ h.limit_num p
  pub limit_den_lem : (p : ℕ) → h.IsPort p → g.limit_den p ≡ h.limit_den p
  pub edge : (i : ℕ) → g.IsEdge i → h.IsEdge (f i)
  pub onto : (k : ℕ) → h.IsEdge k → (i : ℕ) × g.IsEdge i × (f i ≡ k)
  pub from : (i : ℕ) → g.IsEdge i → g.from i ≡ h.from (f i)
  pub to : (i : ℕ) → g.IsEdge i → g.to i ≡ h.to (f i)
  pub ticks_forward_lem : (i : ℕ) → g.IsEdge i → g.E⁺ i ≡ h.E⁺ (f i)
  pub ticks_back_lem : (i : ℕ) → g.IsEdge i → g.E⁻ i ≡ h.E⁻ (f i)
  pub events_forward : (i : ℕ) → g.IsEdge i → g.D⁺ i ≡ h.D⁺ (f i)
  pub events_back : (i : ℕ) → g.IsEdge i → g.D⁻ i ≡ h.D⁻ (f i)
