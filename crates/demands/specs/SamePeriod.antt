-- Ports that are joined have the same a/b.
use Rattle.std.specs.Prelude.{ℕ, ◌≡◌}
use Rattle.std.proofs.Common.{le_antisymm}
use Rattle.numbers.specs.Gcd.{coprime_unique}
use Rattle.specification.specs.Periods.{Period, graph_in}
use Rattle.period.specs.Limits.{period_least}
use Rattle.specification.specs.Table.{Table, IsPort}
use Rattle.specification.specs.Ratios.{Joined}
use Rattle.ways.specs.WayLaws.{component_unique, joined_component}
use Rattle.specification.specs.Answers.{Timing, Consistent}

pub record SamePeriod (r : Timing) (p q : ℕ) : Type 0 where
  pub a : r.a p ≡ r.a q
  pub b : r.b p ≡ r.b q

-- both are the least that serves their component, in lowest terms
pub same_period : {t : Table} {r : Timing} {p q : ℕ} → Consistent t r → IsPort t p → IsPort t q → Joined t p q → SamePeriod r p q
same_period {t} {r} {p} {q} right i k j =
    let equal = le_antisymm (period_least one other.serves) (period_least other one.serves) in
    let (a, b) = coprime_unique one.lowest other.lowest other.over equal in
    record { a = a; b = b }
  where
    same : r.component q ≡ r.component p
    same = component_unique (right.components q k) (joined_component j (right.components p i))

    one : Period (graph_in t r.weight (r.component p)) (r.a p) (r.b p)
    one = right.periods p i

    other : Period (graph_in t r.weight (r.component p)) (r.a q) (r.b q)
    other = rw same at (right.periods q k)
