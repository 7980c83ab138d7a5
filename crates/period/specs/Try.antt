-- One a/b tried: what is asked, and what it ends with.
use Rattle.std.specs.Prelude.{ℕ, ◌+◌, ◌*◌, ◌/◌, ◌≤◌, ◌<◌, ◌≡◌, List, [], length, Result, Ok, Err}
use Rattle.rounds.specs.Costs.{Priced}
use Rattle.rounds.specs.Starts.{Stopped}
use Rattle.rounds.specs.Back.{Enclosed, FoundCycle}
use Rattle.period.specs.Component.{graph_of, SmallEdges, SmallTried}
use Rattle.period.specs.Prices.{prices_of}
use Rattle.rounds.specs.declared.back.Part.{Part}

-- m edges between n ports that can be priced at a/b, and room for the rounds and the prices
pub record Trying (edges : List ℕ) (m a b n : ℕ) (work : List ℕ) : Type 0 where
  pub counted : length edges / 6 ≡ m
  pub small_edges : SmallEdges (graph_of [] [] edges)
  pub small_period : SmallTried a b
  pub priced : Priced (prices_of edges a b)
  pub enclosed : Enclosed (prices_of edges a b) n
  pub some : 0 < n
  pub few : n ≤ 64
  pub work_room : 64 * n + 64 + 4 * m ≤ length work

-- the rounds stopped, or there is a cycle that gains more than it loses
abbrev pub TryResult : (cs : List ℕ) (n : ℕ) (work steps : List ℕ) → Result ℕ Part → Type 0
TryResult cs n work steps (Ok r) = Stopped cs work n r
TryResult cs n work steps (Err part) = FoundCycle cs steps part
