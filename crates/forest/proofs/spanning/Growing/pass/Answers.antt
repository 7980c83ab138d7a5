-- The links below k are passed, both ways.
use native.Mathlib.Omega.{arith}
use Rattle.forest.proofs.spanning.Passing.{ends_named, follow_forth, follow_back, spreading_forth, passed_on}
use Rattle.forest.proofs.spanning.Growing.pass.Goals as goal

pub follow-requires : goal.follow-requires
follow-requires c =
    follow_forth c.args.table.now.well_formed (omega arith) (ends_named c.link-l.ensures) c.loop-k.invariant.spreading

pub follow-requires-in-loop-k : goal.follow-requires-in-loop-k
follow-requires-in-loop-k c =
    let formed = c.args.table.now.well_formed in
    let ends = ends_named c.link-l.ensures in
    follow_back formed (omega arith) ends (spreading_forth formed (omega arith) ends c.follow.ensures c.loop-k.invariant.spreading)

pub loop-k-preserved : goal.loop-k-preserved
loop-k-preserved c =
    passed_on c.args.table.now.well_formed (omega arith) (ends_named c.link-l.ensures) c.follow.ensures c.follow-in-loop-k.ensures c.loop-k.invariant
