-- Which links the rows of exponents fit.
use Rattle.std.specs.Prelude.{ℕ, ◌*◌, ◌<◌, ◌≡◌, ◌≢◌, Bool, true, false, cond, ◌&&◌, Option, None, Some, List, get_or, eqb, ltb}
use Rattle.specification.specs.declared.Link.{Link}
use Rattle.specification.specs.Table.{Table, link_count, link}
use Rattle.table.specs.WellFormed.{LinkFits}
use Rattle.forest.specs.PortRows.{value_of, Fits}

-- a test of one link
pub record FitsRows (l : Link) (rows : List (List ℕ)) (r : Bool) : Type 0 where
  pub yes : r ≡ true → value_of rows l.to * l.num ≡ value_of rows l.from * l.den
  pub no : r ≡ false → value_of rows l.to * l.num ≢ value_of rows l.from * l.den

-- of the two ends of a link the one that was reached later
abbrev pub later_end : (reach : List ℕ) → (p q : ℕ) → ℕ
later_end reach p q = cond (ltb (get_or reach p 0) (get_or reach q 0)) q p

-- port p is the lowest of its component, or was reached over a link
pub record TreeLinked (t : Table) (labels via : List ℕ) (p : ℕ) : Type 0 where
  pub low : p < 64
  pub a_link : get_or labels p 0 ≢ p → get_or via p 0 < link_count t

-- the link over which port p was reached, or none where p is the lowest port of its component
abbrev pub tree_link : Table → (labels via : List ℕ) → (p : ℕ) → Option Link
tree_link t labels via p = cond (eqb (get_or labels p 0) p) None (Some (link t (get_or via p 0)))

-- whether l joins the ports that m joins, in either direction, at the same ratio
abbrev pub is_parallel : (l m : Link) → Bool
is_parallel l m =
    cond (eqb l.from m.from && eqb l.to m.to) (eqb (l.num * m.den) (l.den * m.num))
    (cond (eqb l.from m.to && eqb l.to m.from) (eqb (l.num * m.num) (l.den * m.den)) false)

-- the rows fit link m
pub record KnownToFit (rows : List (List ℕ)) (m : Link) : Type 0 where
  pub link_fits : LinkFits 64 m
  pub fits : FitsRows m rows true

-- the rows fit every link below n
pub record FitBelow (t : Table) (rows : List (List ℕ)) (n : ℕ) : Type 0 where
  pub each : (k : ℕ) → k < n → Fits t rows k

-- the rows fit every link below k, and link k not
pub record FirstConflict (t : Table) (rows : List (List ℕ)) (k : ℕ) : Type 0 where
  pub below : k < link_count t
  pub before : FitBelow t rows k
  pub conflict : ¬ Fits t rows k
