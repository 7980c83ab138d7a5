-- A row of prime exponents for each port: rows that stand to each other as the periods do.
use Rattle.std.specs.Prelude.{ℕ, ◌+◌, ◌*◌, ◌≤◌, ◌<◌, ◌≡◌, ◌≢◌, List, [], length, get_or, replicate}
use Rattle.exponents.specs.Primes.{prime_at}
use Rattle.exponents.specs.Row.{row_value}
use Rattle.specification.specs.Table.{Table, IsPort, IsLink, from, to, num, den}
use Rattle.forest.specs.Forest.{Forest}

abbrev pub row_of : List (List ℕ) → ℕ → List ℕ
row_of rows p = get_or rows p []

-- the number that the row of a port stands for
abbrev pub value_of : List (List ℕ) → ℕ → ℕ
value_of rows p = row_value (row_of rows p)

-- the rows of a link's ends fit its ratio, as (1) asks of the periods
pub record Fits (t : Table) (rows : List (List ℕ)) (k : ℕ) : Type 0 where
  pub fits : value_of rows (to t k) * num t k ≡ value_of rows (from t k) * den t k

-- the row of exponent zero, which is 1,000
abbrev pub zero_row : List ℕ
zero_row = replicate 168 1000

-- every exponent of a row is within 9 d of 1,000, which stands for exponent zero
pub record Near (row : List ℕ) (d : ℕ) : Type 0 where
  pub long : length row ≡ 168
  pub low : (i : ℕ) → i < 168 → 1000 ≤ get_or row i 0 + 9 * d
  pub high : (i : ℕ) → i < 168 → get_or row i 0 ≤ 1000 + 9 * d

-- 64 rows, each within 64 links of the row of its component's lowest port
pub record PortRows (rows : List (List ℕ)) : Type 0 where
  pub all : length rows ≡ 64
  pub near : (p : ℕ) → p < 64 → Near (row_of rows p) 64

-- no part of a ratio other than 1 is above m
pub record PartsAtMost (t : Table) (m : ℕ) : Type 0 where
  pub num_most : (k : ℕ) → IsLink t k → num t k ≢ den t k → num t k ≤ m
  pub den_most : (k : ℕ) → IsLink t k → num t k ≢ den t k → den t k ≤ m

-- in every row a prime above m has the exponent zero, which is 1,000
pub record RowsUpTo (rows : List (List ℕ)) (m : ℕ) : Type 0 where
  pub zero : (p i : ℕ) → p < 64 → i < 168 → m < prime_at i → get_or (row_of rows p) i 0 ≡ 1000

-- the rows fit the link over which each port but the lowest of its component was reached
pub record OverForest (t : Table) (labels via : List ℕ) (rows : List (List ℕ)) : Type 0 where
  pub a_link : (p : ℕ) → IsPort t p → get_or labels p 0 ≢ p → IsLink t (get_or via p 0)
  pub fits : (p : ℕ) → IsPort t p → get_or labels p 0 ≢ p → Fits t rows (get_or via p 0)

-- a forest whose links the rows fit
pub record Spanned (t : Table) (labels reach via : List ℕ) (rows : List (List ℕ)) : Type 0 where
  pub forest : Forest t labels reach via
  pub port_rows : PortRows rows
  pub over_forest : OverForest t labels via rows
  pub up_to : (m : ℕ) → PartsAtMost t m → RowsUpTo rows m
