-- The sums of a small delay.
use Prim.Native.Nat.{ℕ, ◌+◌, ◌*◌, ◌≤◌}
use Rattle.rounds.specs.Costs.{most_cost}
use Rattle.specification.specs.declared.Ticks.{Ticks}
use Rattle.specification.specs.declared.Events.{Events}
use Rattle.period.specs.Delay.{SmallDelay}
use Rattle.period.specs.PricesLaws.{cost_most}

pub record Bounds (ticks : Ticks) (events : Events) (a b : ℕ) : Type 0 where
  pub forward : ticks.0 * b + events.0 * a ≤ most_cost
  pub back : ticks.1 * b + events.1 * a ≤ most_cost

pub bounds : {ticks : Ticks} {events : Events} {a b : ℕ} → SmallDelay ticks events a b → Bounds ticks events a b
bounds s = record {
  forward = cost_most s.ticks_forward_lem s.events_forward s.small;
  back = cost_most s.ticks_back_lem s.events_back s.small;
}
