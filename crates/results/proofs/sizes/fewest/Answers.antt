-- Each case gives the fewest events.
use native.Mathlib.Omega.{arith}
use Rattle.results.proofs.sizes.Cases.{nothing_size, exact_size, part_size, part_small}
use Rattle.results.proofs.sizes.fewest.Goals as goal

pub overflow_add-result : goal.overflow_add-result
overflow_add-result c =
    let part = rw c.in-PartOver.is at c.events_needed.ensures in
    omega (arith, part_small c.requires part)

pub returns-in-Nothing : goal.returns-in-Nothing
returns-in-Nothing c =
    nothing_size c.requires (rw c.in-Nothing.is at c.events_needed.ensures)

pub returns-in-Exact : goal.returns-in-Exact
returns-in-Exact c =
    exact_size c.requires (rw c.in-Exact.is at c.events_needed.ensures)

pub returns-in-PartOver : goal.returns-in-PartOver
returns-in-PartOver c =
    part_size c.requires (rw c.in-PartOver.is at c.events_needed.ensures)
