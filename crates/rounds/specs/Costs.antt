-- Edges at one a/b, in one list, four numbers to an edge: from, to, gain and loss.
use Rattle.std.specs.Prelude.{ℕ, ◌+◌, ◌*◌, ◌/◌, ◌≤◌, ◌<◌, List, length, get_or}
use Rattle.specification.specs.Periods.{Graph}

abbrev pub count : List ℕ → ℕ
count cs = length cs / 4

abbrev pub from_of : List ℕ → ℕ → ℕ
from_of cs k = get_or cs (4 * k) 0

abbrev pub to_of : List ℕ → ℕ → ℕ
to_of cs k = get_or cs (4 * k + 1) 0

abbrev pub gain_of : List ℕ → ℕ → ℕ
gain_of cs k = get_or cs (4 * k + 2) 0

abbrev pub loss_of : List ℕ → ℕ → ℕ
loss_of cs k = get_or cs (4 * k + 3) 0

-- the most that an edge gains or loses: 10,000,000 times 640,000,000, twice
abbrev pub most_cost : ℕ
most_cost = 12_800_000_000_000_000

-- every edge joins ports below 64, and no gain or loss is large
pub record Priced (cs : List ℕ) : Type 0 where
  pub from_in : (k : ℕ) → k < count cs → from_of cs k < 64
  pub to_in : (k : ℕ) → k < count cs → to_of cs k < 64
  pub gains : (k : ℕ) → k < count cs → gain_of cs k ≤ most_cost
  pub losses : (k : ℕ) → k < count cs → loss_of cs k ≤ most_cost

-- the graph of these edges, their gains and losses fixed; its ports have no limits
abbrev pub priced : List ℕ → Graph
priced cs = record {
  IsPort = λ p. Unit {0};
  limit_num = λ p. 0;
  limit_den = λ p. 1;
  IsEdge = λ k. k < count cs;
  from = from_of cs;
  to = to_of cs;
  E⁺ = gain_of cs;
  E⁻ = loss_of cs;
  D⁺ = λ k. 0;
  D⁻ = λ k. 0;
}
