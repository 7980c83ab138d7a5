-- What a turn of the scan for the greatest part keeps.
use Prim.Native.Nat.{ℕ, ◌+◌, ◌≤◌, ◌<◌, max}
use mathlib.Core.Path.{◌≡◌, refl}
use mathlib.Core.Logic.{◌≢◌}
use native.Mathlib.Numerals.{add-one}
use native.Mathlib.Omega.{arith}
use Rattle.specification.specs.Table.{Table, link_count, num, den}
use Rattle.forest.specs.Parts.{greatest_of, part_one, part_other}

-- m is the greatest part of the links below k
pub record MostBelow (t : Table) (k m : ℕ) : Type 0 where
  pub within : k ≤ link_count t
  pub is : m ≡ greatest_of t k

module _ {t : Table} where
  pub most_none : MostBelow t 0 0
  unfolding greatest_of
  most_none = record { within = omega arith; is = refl }

  module _ {k m n d : ℕ} (s : MostBelow t k m) (above : n ≡ num t k) (below : d ≡ den t k) (low : k < link_count t) where
    -- the ratio is 1
    pub most_off : n ≡ d → MostBelow t (k + 1) m
    unfolding greatest_of
    most_off e = record { within = omega arith; is = rw add-one (omega (arith, s.is, part_one t k (omega arith))) }

    pub most_on : n ≢ d → {part most : ℕ} → part ≡ max n d → most ≡ max m part → MostBelow t (k + 1) most
    unfolding greatest_of
    most_on e f g = record { within = omega arith; is = rw add-one (omega (arith, s.is, part_other t k (λ h. e (omega arith)))) }
