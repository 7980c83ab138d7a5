-- A spanning forest of a table's links: from each component's lowest port every other port was reached over one link.
use Rattle.std.specs.Prelude.{ℕ, ◌≤◌, ◌<◌, ◌≡◌, ◌⊎◌, ◌≢◌, List, length, get_or}
use Rattle.specification.specs.Table.{Table, IsPort, IsLink, from, to}

-- the two ends of a link, in either order
abbrev pub HasEnds : Table → ℕ → ℕ → ℕ → Type 0
HasEnds t k p q = ((from t k ≡ p) × (to t k ≡ q)) ⊎ ((to t k ≡ p) × (from t k ≡ q))

-- port p was reached over the link via p from a port that was reached before it, of the same component
pub record Reached (t : Table) (labels reach via : List ℕ) (p : ℕ) : Type 0 where
  pub parent : ℕ
  pub a_port : IsPort t parent
  pub a_link : IsLink t (get_or via p 0)
  pub ends : HasEnds t (get_or via p 0) p parent
  pub earlier : get_or reach parent 0 < get_or reach p 0
  pub same_label : get_or labels parent 0 ≡ get_or labels p 0

-- reach gives the order in which the ports were reached, from 1 on; via the link over which, for all but the lowest of each component
pub record Forest (t : Table) (labels reach via : List ℕ) : Type 0 where
  pub reach_long : length reach ≡ 64
  pub via_long : length via ≡ 64
  pub order : (p q : ℕ) → IsPort t p → IsPort t q → get_or reach p 0 ≡ get_or reach q 0 → p ≡ q
  pub few : (p : ℕ) → IsPort t p → get_or reach p 0 ≤ 64
  pub some : (p : ℕ) → IsPort t p → 0 < get_or reach p 0
  pub root_first : (p : ℕ) → IsPort t p → get_or reach (get_or labels p 0) 0 ≤ get_or reach p 0
  pub reached : (p : ℕ) → IsPort t p → get_or labels p 0 ≢ p → Reached t labels reach via p
