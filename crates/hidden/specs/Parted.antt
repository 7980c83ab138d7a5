-- The links of a table by the side of a port on which they are.
use Rattle.std.specs.Prelude.{ℕ, ◌≡◌, false}
use mathlib.Core.List.{List}
use Rattle.specification.specs.Table.{Table}
use Rattle.specification.specs.Hiding.{goes_into, comes_from, apart, cannot_hide}
use Rattle.hidden.specs.Picked.{NumbersOf}

-- the port can be hidden, and these are the numbers of the links into it, out of it and apart from it
pub record Parted (t : Table) (p : ℕ) (into from apart' : List ℕ) : Type 0 where
  pub can : cannot_hide t p ≡ false
  pub into_are : NumbersOf (goes_into p) t.links into
  pub from_are : NumbersOf (comes_from p) t.links from
  pub apart_are : NumbersOf (apart p) t.links apart'
