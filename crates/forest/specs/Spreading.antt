-- A forest while it spreads over the links: its ports in the order reached, and what one link and one pass do.
use Rattle.std.specs.Prelude.{ℕ, ◌+◌, ◌*◌, ◌≤◌, ◌<◌, min, ◌≡◌, ◌⊎◌, ◌≢◌, List, length, get_or, set}
use Rattle.exponents.specs.Primes.{prime_at}
use Rattle.exponents.specs.Row.{row_value}
use Rattle.numbers.specs.Lists.{sum}
use Rattle.table.specs.WellFormed.{PartFits}
use Rattle.specification.specs.Table.{Table, link_count, IsPort, IsLink, from, to}
use Rattle.specification.specs.Ratios.{Component}
use Rattle.forest.specs.Forest.{HasEnds}
use Rattle.forest.specs.declared.spanning.Growing.{Growing}
use Rattle.forest.specs.PortRows.{row_of, Fits, Near, PartsAtMost, RowsUpTo}

-- count ports are reached, each with a number of its own up to count
pub record Numbered (reach : List ℕ) (count : ℕ) : Type 0 where
  pub long : length reach ≡ 64
  pub counted : sum (λ r. min r 1) reach ≡ count
  pub within : (p : ℕ) → get_or reach p 0 ≤ count
  pub order : (p q : ℕ) → 0 < get_or reach p 0 → get_or reach p 0 ≡ get_or reach q 0 → p ≡ q

-- p is reached next, over link k
abbrev pub entered : Growing → ℕ → ℕ → Growing
entered f p k = record { reach = set f.reach p (f.count + 1); via = set f.via p k; count = f.count + 1 }

-- of the ports below n those that are their own labels are reached, and no others
pub record Rooted (n : ℕ) (labels : List ℕ) (f : Growing) : Type 0 where
  pub numbered : Numbered f.reach f.count
  pub via_long : length f.via ≡ 64
  pub all : (p : ℕ) → p < n → get_or labels p 0 ≡ p → 0 < get_or f.reach p 0
  pub only : (p : ℕ) → 0 < get_or f.reach p 0 → get_or labels p 0 ≡ p
  pub below : (p : ℕ) → 0 < get_or f.reach p 0 → p < n

module _ (t : Table) where
  module _ (f : Growing) (rows : List (List ℕ)) where
    -- p was reached over the link via p, which the rows fit, from a port that was reached before it
    pub record Child (p : ℕ) : Type 0 where
      pub parent : ℕ
      pub a_port : IsPort t parent
      pub a_link : IsLink t (get_or f.via p 0)
      pub ends : HasEnds t (get_or f.via p 0) p parent
      pub parent_reached : 0 < get_or f.reach parent 0
      pub earlier : get_or f.reach parent 0 < get_or f.reach p 0
      pub fits : Fits t rows (get_or f.via p 0)

    -- the lowest port c of each component is reached before its other ports, and each of those that is reached is a child
    pub record Spreading : Type 0 where
      pub numbered : Numbered f.reach f.count
      pub via_long : length f.via ≡ 64
      pub rows_long : length rows ≡ 64
      pub near : (p : ℕ) → p < 64 → Near (row_of rows p) (get_or f.reach p 0)
      pub root : (p c : ℕ) → IsPort t p → Component t p c → 0 < get_or f.reach c 0
      pub root_first : (p c : ℕ) → IsPort t p → Component t p c → 0 < get_or f.reach p 0
          → get_or f.reach c 0 ≤ get_or f.reach p 0
      pub child : (p : ℕ) → IsPort t p → 0 < get_or f.reach p 0 → ¬ Component t p p → Child p
      pub up_to : (m : ℕ) → PartsAtMost t m → RowsUpTo rows m

  -- no link below n has just one end reached
  pub record Closed (n : ℕ) (f : Growing) : Type 0 where
    pub along : (k : ℕ) → k < n → 0 < get_or f.reach (from t k) 0 → 0 < get_or f.reach (to t k) 0
    pub against : (k : ℕ) → k < n → 0 < get_or f.reach (to t k) 0 → 0 < get_or f.reach (from t k) 0

  -- the links below n make f' and rows of the forest f; where none reached a port, none can
  pub record Passed (n : ℕ) (f f' : Growing) (rows : List (List ℕ)) : Type 0 where
    pub within : n ≤ link_count t
    pub spreading : Spreading f' rows
    pub grown : f.count ≤ f'.count
    pub closed : f'.count ≡ f.count → Closed n f'

-- ---- one link, from its end p to its end q
module _ (rows : List (List ℕ)) (p q : ℕ) where
  -- the row of p has room for both parts of the ratio
  pub record Spreadable (times by : ℕ) : Type 0 where
    pub one : p < 64
    pub other : q < 64
    pub times_fits : PartFits times
    pub by_fits : PartFits by
    pub near : Near (row_of rows p) 64

  -- q has the row of p times `times`, divided by `by`
  pub record RowMade (times by : ℕ) (rows' : List (List ℕ)) : Type 0 where
    pub row : List ℕ
    pub rows_made : rows' ≡ set rows q row
    pub long : length row ≡ 168
    pub value : row_value row * by ≡ row_value (row_of rows p) * times
    pub low : (i : ℕ) → i < 168 → get_or (row_of rows p) i 0 ≤ get_or row i 0 + 9
    pub high : (i : ℕ) → i < 168 → get_or row i 0 ≤ get_or (row_of rows p) i 0 + 9
    -- a prime above both parts has the exponent that it had
    pub above : (m i : ℕ) → (times ≢ by → times ≤ m) → (times ≢ by → by ≤ m) → i < 168 → m < prime_at i
        → get_or row i 0 ≡ get_or (row_of rows p) i 0

module _ (f : Growing) (rows : List (List ℕ)) (p q : ℕ) where
  pub record Followable (times by : ℕ) : Type 0 where
    pub few : f.count ≤ 64
    pub spreadable : Spreadable rows p q times by

  -- q is reached from p over link k
  pub record Extended (k times by : ℕ) (f' : Growing) (rows' : List (List ℕ)) : Type 0 where
    pub reached : 0 < get_or f.reach p 0
    pub new : get_or f.reach q 0 ≡ 0
    pub made : f' ≡ entered f q k
    pub row_made : RowMade rows p q times by rows'

  -- p is not reached, or q is
  pub record Unchanged (f' : Growing) (rows' : List (List ℕ)) : Type 0 where
    pub same : f' ≡ f
    pub rows_same : rows' ≡ rows
    pub done : 0 < get_or f.reach p 0 → 0 < get_or f.reach q 0

  pub record Followed (k times by : ℕ) (f' : Growing) (rows' : List (List ℕ)) : Type 0 where
    pub case : Extended k times by f' rows' ⊎ Unchanged f' rows'
