-- The links below k are passed.
use native.Mathlib.Omega.{arith}
use Rattle.ways.proofs.components.Passing.{passed_next}
use Rattle.ways.proofs.components.pass.Goals as goal

pub loop-k-preserved : goal.loop-k-preserved
loop-k-preserved c =
    passed_next c.args.table.now.well_formed (omega arith) c.link-l.ensures.fields.from c.link-l.ensures.fields.to _ _ c.loop-k.invariant c.level-changed.ensures
