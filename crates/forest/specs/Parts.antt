-- The greatest part of a table's ratios, ratios of 1 aside.
use Prim.Native.Nat.{ℕ, zero, suc, ◌≤◌, ◌<◌, max}
use Rattle.std.specs.Prelude.{◌≡◌, ◌≢◌, cond, eqb}
use Rattle.std.proofs.Math.Logic.{⊎_elim}
use Rattle.std.proofs.Common.{eq-or-lt_of_le, le_of_suc-le-suc, not-suc-le-zero, arith, eq-eqb, ne_eqb}
use Rattle.std.proofs.Math.Decide.{ℕ_discrete}
use Rattle.table.specs.WellFormed.{WellFormed}
use Rattle.specification.specs.Table.{Table, link_count, IsLink, num, den}
use Rattle.forest.specs.PortRows.{PartsAtMost}

module _ (t : Table) where
  -- the greater part of the ratio of link k, or 0 where that is 1
  abbrev pub greater_part : ℕ → ℕ
  greater_part k = cond (eqb (num t k) (den t k)) 0 (max (num t k) (den t k))

  -- the greatest of the first n links
  unfoldable pub greatest_of : ℕ → ℕ
  greatest_of zero = 0
  greatest_of (suc n) = max (greatest_of n) (greater_part n)

  abbrev pub greatest_part : ℕ
  greatest_part = greatest_of (link_count t)

  -- ---- its laws
  pub part_one : (k : ℕ) → num t k ≡ den t k → greater_part k ≡ 0
  part_one k e = rw (eq-eqb (num t k) (den t k) e)

  pub part_other : (k : ℕ) → num t k ≢ den t k → greater_part k ≡ max (num t k) (den t k)
  part_other k d = rw (ne_eqb (num t k) (den t k) d)

  part_within : (n k : ℕ) → k < n → greater_part k ≤ greatest_of n
  unfolding greatest_of
  part_within zero k h = absurd (not-suc-le-zero h)
  part_within (suc n) k h =
      ⊎_elim (λ e. rw e (omega arith)) (λ l. omega (arith, part_within n k l)) (eq-or-lt_of_le (le_of_suc-le-suc h))

  -- no part of a ratio other than 1 is greater
  pub greatest_most : PartsAtMost t greatest_part
  greatest_most = record {
    num_most = λ k i d. omega (arith, part_within (link_count t) k i.below, part_other k d);
    den_most = λ k i d. omega (arith, part_within (link_count t) k i.below, part_other k d);
  }

  -- where it is 0 every ratio is 1
  pub zero_ones : WellFormed t → greatest_part ≡ 0 → (k : ℕ) → IsLink t k → num t k ≡ den t k
  zero_ones formed none k i = one (ℕ_discrete (num t k) (den t k))
    where
      one : Dec (num t k ≡ den t k) → num t k ≡ den t k
      one (yes e) = e
      one (no d) = absurd (omega (arith, greatest_most.num_most k i d, (formed.links k i.below).num.least))
