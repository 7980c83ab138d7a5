-- It is the greatest part of the links below k.
use native.Mathlib.Omega.{arith}
use Rattle.forest.proofs.parts.Most.{most_none, most_on, most_off}
use Rattle.forest.proofs.parts.greatest_part.Goals as goal
use Rattle.forest.proofs.parts.greatest_part.Goals.{then-l, else-l}

pub loop-k-init : goal.loop-k-init
loop-k-init c = most_none

pub loop-k-preserved : goal.loop-k-preserved
loop-k-preserved c =
    let l = c.link-l.ensures.fields in
    elim c.if-l.branch [
      | then-l w ↦ rw w.most-is (most_on c.loop-k.invariant l.num l.den (omega arith) w.if-l.true w.max.ensures w.max-most.ensures)
      | else-l w ↦ rw w.most-is (most_off c.loop-k.invariant l.num l.den (omega arith) w.if-l.false)
    ]
