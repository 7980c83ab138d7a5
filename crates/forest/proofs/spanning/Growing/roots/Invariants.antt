-- The ports below p are passed.
use Rattle.forest.proofs.spanning.Rooting.{Rooting}
use Rattle.forest.proofs.spanning.Growing.roots.Given as goal

abbrev pub invariant-loop-p : goal.invariant-loop-p
invariant-loop-p l = Rooting l.ports l.p l.labels l.roots
