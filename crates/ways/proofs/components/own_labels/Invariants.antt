-- The numbers below p are labelled.
use Rattle.ways.specs.Passes.{Own}
use Rattle.ways.proofs.components.own_labels.Given as goal

abbrev pub invariant-loop-p : goal.invariant-loop-p
invariant-loop-p l = Own l.p l.label-items
