-- What the search for a tight edge asks and finds.
use Rattle.std.specs.Prelude.{ℕ, ◌+◌, ◌*◌, ◌≤◌, ◌<◌, ◌≡◌, List, length, get_or}
use Rattle.rounds.specs.Costs.{count, from_of, to_of, gain_of, loss_of, most_cost, Priced}

-- edge k brings port p to its start in row r + 1, from its sender's start in row r
pub record TightEdge (cs rows : List ℕ) (r p k : ℕ) : Type 0 where
  pub is_edge : k < count cs
  pub into : to_of cs k ≡ p
  pub exact : get_or rows (64 * r + from_of cs k) 0 + gain_of cs k ≡ get_or rows (64 * r + 64 + p) 0 + loss_of cs k

-- some edge into port p is tight from row r to row r + 1, and no sum at any edge is too large
pub record SomeTight (cs rows : List ℕ) (r p : ℕ) : Type 0 where
  pub edges : Priced cs
  pub port : p < 64
  pub room : 64 * r + 128 ≤ length rows
  pub below : (j : ℕ) → j < 64 → get_or rows (64 * r + j) 0 ≤ 64 * most_cost
  pub above : get_or rows (64 * r + 64 + p) 0 ≤ 64 * most_cost
  pub edge : ℕ
  pub tight : TightEdge cs rows r p edge
