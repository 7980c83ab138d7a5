-- The rate limit of a port, read of the table.
use Prim.Native.Nat.{ℕ, ◌+◌, ◌*◌, ◌<◌}
use mathlib.Core.Path.{◌≡◌}
use mathlib.Core.Logic.{◌≢◌}
use mathlib.Core.List.{List}
use native.Mathlib.Omega.{arith}
use lib.ListN.{length, get_or}
use borrow.Author.Tests.{eq-eqb, ne_eqb}
use Rattle.fraction.specs.declared.Fraction.{Fraction}
use Rattle.fraction.specs.Lowest.{lowest_terms}
use Rattle.specification.specs.declared.Port.{Port}
use Rattle.specification.specs.Table.{no_port}
use Rattle.period.specs.Edges.{limits_of, PortNumbers}
use Rattle.period.specs.EdgesLaws.{limits_at}
use Rattle.period.specs.Limited.{Limited}
use Rattle.period.specs.LimitOf.{HasLimit, limit_of}
use Rattle.numbers.specs.Taken.{member_at}

module _ {ports : List Port} {weights : List ℕ} where
  pub has_limit : {members : List ℕ} {i : ℕ} → PortNumbers ports members → Limited members (limits_of ports weights) → i < length members
      → HasLimit ports weights (get_or members i 0)
  has_limit {members} {i} n s h =
      let p = get_or members i 0 in
      let m = member_at members i h in
      let low = s.low_ports p m in
      let at = limits_at ports weights p 1 low (omega arith) in
      record { a_port = n.below p m; low = low; small = rw at at (s.small.den_most p m) }

  module _ {p : ℕ} {rate : Port} (h : HasLimit ports weights p) (e : rate ≡ get_or ports p no_port) where
    -- a port without a rate
    pub read_none : rate.num * get_or weights p 0 ≡ 0 → record { num = 0; den = 1 } ≡ limit_of (limits_of ports weights) p
    unfolding limit_of
    read_none none =
        let below = limits_at ports weights p 1 h.low (omega arith) in
        rw (below, ← e, eq-eqb _ _ none)

    pub read_limit : {r : Fraction} → rate.num * get_or weights p 0 ≢ 0 → r ≡ lowest_terms rate.den (rate.num * get_or weights p 0)
        → r ≡ limit_of (limits_of ports weights) p
    unfolding limit_of
    read_limit some l =
        let first : 2 * p + 0 ≡ 2 * p = omega arith in
        let above = rw first at (limits_at ports weights p 0 h.low (omega arith)) in
        let below = limits_at ports weights p 1 h.low (omega arith) in
        rw (above, below, ← e, ne_eqb _ _ some, l)
