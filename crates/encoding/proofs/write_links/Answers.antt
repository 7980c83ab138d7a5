-- Each turn of the loop writes the record of one link more behind the others.
use native.Mathlib.Omega.{arith}
use lib.ListN.{length-take, length-drop}
use Rattle.encoding.specs.SoFar.{written_none, next_room, written_on}
use Rattle.encoding.proofs.write_links.Goals as goal

pub loop-k-init : goal.loop-k-init
loop-k-init c = written_none c.requires.links_in_bounds

pub write_link-at-requires-clause-l_in_bounds : goal.write_link-at-requires-clause-l_in_bounds
write_link-at-requires-clause-l_in_bounds c =
    let room = next_room c.loop-k.invariant (omega arith) in
    rw c.link.ensures.whole (simp (length-take, length-drop) (omega arith))

pub loop-k-preserved : goal.loop-k-preserved
loop-k-preserved c = written_on c.loop-k.invariant (omega arith) (rw c.link.ensures.whole at c.write_link-at.ensures)
