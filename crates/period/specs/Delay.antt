-- A delay in ticks and events at a period.
use Rattle.std.specs.Prelude.{ℕ, ◌+◌, ◌*◌, ◌≤◌}
use Rattle.specification.specs.declared.Ticks.{Ticks}
use Rattle.specification.specs.declared.Events.{Events}
use Rattle.period.specs.Component.{most_amount, SmallTried}

-- the delay at the period a/b, in ticks over b: one event is a/b ticks
abbrev pub delay_at : Ticks → Events → (a b : ℕ) → Ticks
delay_at ticks events a b = (ticks.0 * b + events.0 * a, ticks.1 * b + events.1 * a)

-- no part is large
pub record SmallDelay (ticks : Ticks) (events : Events) (a b : ℕ) : Type 0 where
  pub ticks_forward_lem : ticks.0 ≤ most_amount
  pub ticks_back_lem : ticks.1 ≤ most_amount
  pub events_forward : events.0 ≤ most_amount
  pub events_back : events.1 ≤ most_amount
  pub small : SmallTried a b
