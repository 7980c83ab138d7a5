-- The floor that the rates of a component's ports make: the greatest of their rate limits, or zero.
use Rattle.std.specs.Prelude.{ℕ, ◌*◌, ◌≤◌, ◌<◌, ◌≡◌, List, [], length, get_or, Option, Some, None}
use Rattle.fraction.specs.declared.Fraction.{Fraction}
use Rattle.numbers.specs.Divisors.{Coprime}
use Rattle.numbers.specs.Lists.{◌∈◌}
use Rattle.specification.specs.Periods.{RateLimit, ZeroFloor}
use Rattle.period.specs.Component.{graph_of, most_amount}
use Rattle.period.specs.declared.limit.Limit.{Limit}

-- the rate limit of a port, in lowest terms: the port stands in the list behind ports with smaller rate limits or none, and no port's is
-- greater
pub record FirstGreatest (ports limits : List ℕ) (port : ℕ) (value : Fraction) : Type 0 where
  pub limit : RateLimit (graph_of ports limits []) port value.num value.den
  pub above_zero : 0 < value.num
  pub place : ℕ
  pub within : place < length ports
  pub is : get_or ports place 0 ≡ port
  pub before : (i : ℕ) → i < place → 0 < (graph_of ports limits []).limit_den (get_or ports i 0)
      → (graph_of ports limits []).limit_num (get_or ports i 0) * value.den < (graph_of ports limits []).limit_den (get_or ports i 0) * value.num
  pub greatest : (p : ℕ) → p ∈ ports → (graph_of ports limits []).limit_num p * value.den ≤ (graph_of ports limits []).limit_den p * value.num
  pub over : 0 < value.den
  pub lowest : Coprime value.num value.den
  pub small_num : value.num ≤ most_amount
  pub small_den : value.den ≤ most_amount

-- it, or none where no port has a rate
abbrev pub GreatestLimit : (ports limits : List ℕ) → Option Limit → Type 0
GreatestLimit ports limits (Some l) = FirstGreatest ports limits l.port l.value
GreatestLimit ports limits None = ZeroFloor (graph_of ports limits [])
