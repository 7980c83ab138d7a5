-- The weights of the ports below p are multiplied.
use Rattle.weights.specs.Scaled.{MultipliedTo}
use Rattle.weights.proofs.whole.multiply.Given as goal

abbrev pub invariant-loop-p : goal.invariant-loop-p
invariant-loop-p l = MultipliedTo l.labels l.p l.c l.f l.initial.weights l.weights
