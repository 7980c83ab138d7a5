-- The ports below p are passed.
use Rattle.forest.proofs.spanning.Rooting.{rooting_none, rooting_few, rooting_on, rooting_off}
use Rattle.forest.proofs.spanning.Growing.roots.Goals as goal
use Rattle.forest.proofs.spanning.Growing.roots.Goals.{then-labels-p, else-labels-p}

pub loop-p-init : goal.loop-p-init
loop-p-init c = rooting_none

pub enter-requires-clause-few : goal.enter-requires-clause-few
enter-requires-clause-few c = rooting_few c.loop-p.invariant c.requires c.loop-p-test.true

pub loop-p-preserved : goal.loop-p-preserved
loop-p-preserved c =
    elim c.if-labels-p.branch [
      | then-labels-p w ↦ rw (w.roots-is, w.enter.ensures) (rooting_on c.loop-p.invariant c.requires c.loop-p-test.true w.if-labels-p.true)
      | else-labels-p w ↦ rw w.roots-is (rooting_off c.loop-p.invariant c.requires c.loop-p-test.true w.if-labels-p.false)
    ]
