-- What relaxing an edge, and a round over every edge, ask and do.
use Rattle.std.specs.Prelude.{ℕ, ◌+◌, ◌*◌, ◌≤◌, ◌<◌, ◌^◌, ◌≡◌, List, length, get_or, Option, Some, None}
use Rattle.rounds.specs.Costs.{count, from_of, to_of, gain_of, loss_of, most_cost, Priced}
use Rattle.rounds.specs.Starts.{round_of}

-- edge k can be relaxed, from the starts s into t
pub record Ready (cs s t : List ℕ) (k : ℕ) : Type 0 where
  pub an_edge : k < count cs
  pub from_in : from_of cs k < length s
  pub to_in : to_of cs k < length t
  pub reach : get_or s (from_of cs k) 0 + gain_of cs k < 2 ^ 64
  pub least : get_or t (to_of cs k) 0 + loss_of cs k < 2 ^ 64

-- a round can be made from the starts s: those of 64 ports, after at most 64 rounds from zero
pub record CanRound (cs s : List ℕ) : Type 0 where
  pub edges : Priced cs
  pub ports : length s ≡ 64
  pub starts : (j : ℕ) → get_or s j 0 ≤ 64 * most_cost

-- j is the lowest port whose start is greater in t than in s
pub record Lowest (s t : List ℕ) (j : ℕ) : Type 0 where
  pub a_port : j < 64
  pub grew : get_or s j 0 < get_or t j 0
  pub lower : (i : ℕ) → i < j → get_or t i 0 ≤ get_or s i 0

-- the lowest port whose start is greater in t than in s, or none is
abbrev pub Grown : (s t : List ℕ) → Option ℕ → Type 0
Grown s t None = (i : ℕ) → i < 64 → get_or t i 0 ≤ get_or s i 0
Grown s t (Some j) = Lowest s t j

-- the starts of the ports below j are those of s, and that of j is greater
pub record Higher (s t : List ℕ) (j : ℕ) : Type 0 where
  pub grew : get_or s j 0 < get_or t j 0
  pub lower : (i : ℕ) → i < j → get_or t i 0 ≡ get_or s i 0

-- the lowest port whose start is greater in t than in s, or t is s
abbrev pub Raised : (s t : List ℕ) → Option ℕ → Type 0
Raised s t None = t ≡ s
Raised s t (Some j) = Higher s t j

-- a round makes t of the starts s, and returns the port
pub record Round (cs s t : List ℕ) (j : Option ℕ) : Type 0 where
  pub made : t ≡ round_of cs s
  pub raised : Raised s t j
