-- The rate limit of one port, among those of all ports.
use Rattle.std.specs.Prelude.{ℕ, ◌+◌, ◌*◌, ◌≤◌, ◌<◌, cond, List, eqb, length, get_or}
use Rattle.fraction.specs.declared.Fraction.{Fraction}
use Rattle.fraction.specs.Lowest.{lowest_terms}
use Rattle.specification.specs.declared.Port.{Port}
use Rattle.specification.specs.Table.{no_port}
use Rattle.period.specs.Component.{most_amount}

-- what reading a port's rate limit asks: rate times weight is small
pub record HasLimit (ports : List Port) (weights : List ℕ) (port : ℕ) : Type 0 where
  pub a_port : port < length ports
  pub low : port < 64
  pub small : (get_or ports port no_port).num * get_or weights port 0 ≤ most_amount

-- the port's rate limit in lowest terms; zero without a rate
unfoldable pub limit_of : (limits : List ℕ) (port : ℕ) → Fraction
limit_of limits port =
    cond
    (eqb (get_or limits (2 * port + 1) 0) 0)
    (record { num = 0; den = 1 })
    (lowest_terms (get_or limits (2 * port) 0) (get_or limits (2 * port + 1) 0))
