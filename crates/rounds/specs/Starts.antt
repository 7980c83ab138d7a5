-- Rounds of starts from zero, each from the starts before it.
use Rattle.std.specs.Prelude.{ℕ, zero, suc, ◌+◌, ◌-◌, ◌*◌, ◌≤◌, ◌<◌, max, ◌≡◌, ◌≢◌, List, length, get_or, set, take, drop, replicate, Result, Ok, Err}
use Rattle.rounds.specs.Costs.{count, from_of, to_of, gain_of, loss_of, Priced}
use Rattle.rounds.specs.declared.starts.Unsettled.{Unsettled}

-- what edge k asks of its receiver, from the starts s, and no less than 0
abbrev pub asked : List ℕ → List ℕ → ℕ → ℕ
asked cs s k = get_or s (from_of cs k) 0 + gain_of cs k - loss_of cs k

-- the starts t with that of port j raised to v at least
unfoldable pub raise : List ℕ → ℕ → ℕ → List ℕ
raise t j v = set t j (max (get_or t j 0) v)

-- the first k edges, each from the starts s
unfoldable pub relaxed : List ℕ → List ℕ → ℕ → List ℕ
relaxed cs s zero = s
relaxed cs s (suc k) = raise (relaxed cs s k) (to_of cs k) (asked cs s k)

-- one round
unfoldable pub round_of : List ℕ → List ℕ → List ℕ
round_of cs s = relaxed cs s (count cs)

-- the starts of 64 ports after r rounds from zero
unfoldable pub starts : List ℕ → ℕ → List ℕ
starts cs zero = replicate 64 0
starts cs (suc r) = round_of cs (starts cs r)

-- the start of port j after r rounds
abbrev pub start_of : List ℕ → ℕ → ℕ → ℕ
start_of cs r j = get_or (starts cs r) j 0

-- row r of a buffer that holds 64 starts to a row
abbrev pub row : List ℕ → ℕ → List ℕ
row rows r = take 64 (drop (64 * r) rows)

-- the costs of so many edges behind row n of a buffer
abbrev pub costs_in : List ℕ → ℕ → ℕ → List ℕ
costs_in work n edges = take (4 * edges) (drop (64 * n + 64) work)

-- rows 0 to last hold the starts after as many rounds
pub record Kept (cs rows : List ℕ) (last : ℕ) : Type 0 where
  pub rows_are : (r : ℕ) → r ≤ last → row rows r ≡ starts cs r

-- what rounds over n ports ask: at least one port, and a row for each round and for the zeros
pub record Fitting (cs rows : List ℕ) (n : ℕ) : Type 0 where
  pub edges : Priced cs
  pub some : 0 < n
  pub few : n ≤ 64
  pub room : 64 * n + 64 ≤ length rows

-- r rounds changed something, and the next, the last that was run, changed nothing
pub record Stopped (cs rows : List ℕ) (n r : ℕ) : Type 0 where
  pub within : r < n
  pub kept : Kept cs rows r
  pub moved : (q : ℕ) → q < r → starts cs (suc q) ≢ starts cs q
  pub still : starts cs (suc r) ≡ starts cs r

-- each of n rounds changed something, and j is the lowest port that the last of them raised
pub record Moving (cs rows : List ℕ) (n j : ℕ) : Type 0 where
  pub kept : Kept cs rows n
  pub moved : (q : ℕ) → q < n → starts cs (suc q) ≢ starts cs q
  pub grew : start_of cs (n - 1) j < start_of cs n j
  pub lower : (i : ℕ) → i < j → start_of cs n i ≡ start_of cs (n - 1) i

abbrev pub RoundsResult : List ℕ → List ℕ → ℕ → Result ℕ Unsettled → Type 0
RoundsResult cs rows n (Ok r) = Stopped cs rows n r
RoundsResult cs rows n (Err u) = Moving cs rows n u.port
