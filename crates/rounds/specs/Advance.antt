-- What a round from a row of a buffer into the next asks and does.
use Rattle.std.specs.Prelude.{ℕ, suc, ◌+◌, ◌*◌, ◌≤◌, ◌<◌, ◌≡◌, List, ◌++◌, length, take, drop, Option}
use Rattle.rounds.specs.Relax.{CanRound, Raised}
use Rattle.rounds.specs.Starts.{round_of, row, costs_in}

-- the buffer with the 64 starts ys in row r
abbrev pub with_row : List ℕ → ℕ → List ℕ → List ℕ
with_row work r ys = take (64 * r) work ++ (ys ++ drop 64 (drop (64 * r) work))

-- the round from row r can be made, and the row after it lies before the costs
pub record Ahead (work : List ℕ) (r n edges : ℕ) : Type 0 where
  pub low : CanRound (costs_in work n edges) (row work r)
  pub before : r < n
  pub room : 64 * n + 64 + 4 * edges ≤ length work

-- row r + 1 is a round from row r, and no other has changed; the round returns j
pub record Advanced (cs : List ℕ) (r : ℕ) (work work' : List ℕ) (j : Option ℕ) : Type 0 where
  pub made : work' ≡ with_row work (suc r) (round_of cs (row work r))
  pub raised : Raised (row work r) (round_of cs (row work r)) j
