-- The edges of a component at one a/b, as the list that the rounds run over.
use Rattle.std.specs.Prelude.{ℕ, zero, suc, ◌+◌, ◌*◌, ◌/◌, ◌≤◌, ◌≡◌, List, [], ◌∷◌, ◌++◌, length, get_or, take}
use Rattle.period.specs.Component.{graph_of, SmallEdges, SmallTried}

-- from, to, gain and loss of the first k edges at a/b
unfoldable pub prices_to : (edges : List ℕ) (a b k : ℕ) → List ℕ
prices_to edges a b zero = []
prices_to edges a b (suc k) =
    prices_to edges a b k
    ++ (get_or edges (6 * k) 0
    ∷ get_or edges (6 * k + 1) 0
    ∷ (get_or edges (6 * k + 2) 0 * b + get_or edges (6 * k + 4) 0 * a)
    ∷ (get_or edges (6 * k + 3) 0 * b + get_or edges (6 * k + 5) 0 * a)
    ∷ [])

-- of every edge
abbrev pub prices_of : (edges : List ℕ) (a b : ℕ) → List ℕ
prices_of edges a b = prices_to edges a b (length edges / 6)

-- what pricing asks: small parts and room
pub record Pricing (edges : List ℕ) (a b : ℕ) (costs : List ℕ) : Type 0 where
  pub small : SmallEdges (graph_of [] [] edges)
  pub room : 4 * (length edges / 6) ≤ length costs
  pub small_period : SmallTried a b

-- the prices stand at the front of the buffer
pub record PricesMade (edges : List ℕ) (a b : ℕ) (costs costs' : List ℕ) : Type 0 where
  pub made : take (4 * (length edges / 6)) costs' ≡ prices_of edges a b
  pub same_length : length costs' ≡ length costs
