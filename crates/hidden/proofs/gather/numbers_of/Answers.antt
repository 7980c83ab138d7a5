-- Each turn of the loop stores one number more, if its link passes.
use Rattle.std.specs.Prelude.{true, false}
use Rattle.std.proofs.Common.{add-one, arith, take-suc-set}
use Rattle.hidden.specs.Picked.{decided_at, gathered_none, gathered_on, gathered_off}
use Rattle.hidden.proofs.gather.numbers_of.Goals as goal
use Rattle.hidden.proofs.gather.numbers_of.Goals.{then-passes, else-passes}

pub loop-k-init : goal.loop-k-init
loop-k-init g c = record { few = omega arith; gathered = λ test d. gathered_none }

pub loop-k-preserved : goal.loop-k-preserved
loop-k-preserved g c = elim c.if-passes.branch [
  | then-passes w ↦ rw (w.room-is, w.count-is, add-one c.loop-k.count) (record {
    few = omega arith;
    gathered = λ test d. rw (take-suc-set c.loop-k.room c.loop-k.count c.loop-k.k (omega arith))
        (gathered_on (c.loop-k.invariant.gathered test d) (omega arith) (decided_at d c.loop-k.k c.link.result true c.link.ensures.whole (rw w.if-passes.true at c.passes.ensures)));
  })
  | else-passes w ↦ rw (w.room-is, w.count-is) (record {
    few = omega arith;
    gathered = λ test d. gathered_off (c.loop-k.invariant.gathered test d) (omega arith) (decided_at d c.loop-k.k c.link.result false c.link.ensures.whole (rw w.if-passes.false at c.passes.ensures));
  })
]
