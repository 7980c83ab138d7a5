-- The rows of the ports below p are taken in.
use native.Mathlib.Omega.{arith}
use Rattle.weights.proofs.weights.Lessening.{label_small, least_none, least_taken}
use Rattle.weights.proofs.weights.least_rows.Goals as goal

pub loop-p-init : goal.loop-p-init
loop-p-init c = least_none c.requires

pub offset_bounds-least-labels : goal.offset_bounds-least-labels
offset_bounds-least-labels c = record { fits = omega (arith, label_small c.requires {p = c.loop-p.p} (omega arith)) }

pub bounds-least-labels : goal.bounds-least-labels
bounds-least-labels c = label_small c.requires (omega arith)

pub loop-p-preserved : goal.loop-p-preserved
loop-p-preserved c = least_taken c.requires (omega arith) c.loop-p.invariant c.take_lesser.ensures
