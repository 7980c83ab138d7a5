-- The weights of the ports below p are stored.
use native.Mathlib.Omega.{arith}
use Rattle.std.proofs.lemmas.Result.{err_from_is_err_and}
use Rattle.weights.proofs.weights.Bounded.{over_bound, within_bound}
use Rattle.weights.proofs.weights.Lessening.{label_small}
use Rattle.weights.proofs.weights.Weighted.{labelled_rows, weighted_none, weighted_on, weighted_over, weighted_all}
use Rattle.weights.proofs.weights.weigh.Goals as goal

pub loop-p-init : goal.loop-p-init
loop-p-init c = weighted_none

pub offset_bounds-least-labels : goal.offset_bounds-least-labels
offset_bounds-least-labels c = record { fits = omega (arith, label_small (labelled_rows c.requires.weighing) {p = c.loop-p.p} (omega arith)) }

pub bounds-least-labels : goal.bounds-least-labels
bounds-least-labels c = label_small (labelled_rows c.requires.weighing) (omega arith)

pub returns-in_err-w : goal.returns-in_err-w
returns-in_err-w c =
    let p = err_from_is_err_and c.from_residual.result c.from_residual.ensures.1 in
    rw p.1 (weighted_over c.requires.weighing c.least_rows-least.ensures (omega arith) (over_bound _ _ c.quotient_within.ensures c.ok_or.ensures.value c.in_err-w.was))

pub loop-p-preserved : goal.loop-p-preserved
loop-p-preserved c =
    let w = within_bound _ _ c.quotient_within.ensures c.ok_or.ensures.value c.in_ok-w.was in
    weighted_on c.requires.weighing c.least_rows-least.ensures (omega arith) w.0 c.loop-p.invariant w.1

pub returns : goal.returns
returns c = weighted_all c.requires.weighing c.least_rows-least.ensures c.loop-p.invariant (omega arith)
