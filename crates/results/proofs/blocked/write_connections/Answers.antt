-- Each step is a place of the numbers.
use native.Mathlib.Omega.{arith}
use Rattle.results.proofs.blocked.Named.{step_named}
use Rattle.results.proofs.blocked.write_connections.Goals as goal

pub offset_bounds-numbers-step : goal.offset_bounds-numbers-step
offset_bounds-numbers-step c = omega (arith, step_named c.loop-i.invariant c.requires.named_cycle c.loop-i-test.true)

pub bounds-numbers-step : goal.bounds-numbers-step
bounds-numbers-step c = step_named c.loop-i.invariant c.requires.named_cycle c.loop-i-test.true
