-- Each turn of the loop writes the record of one link more behind the others.
use Rattle.std.proofs.Common.{arith}
use lib.ListN.{length-take, length-drop}
use Rattle.table.specs.Held.{table_in}
use Rattle.encoding.specs.SoFar.{written_none, next_room, written_on}
use Rattle.hidden.specs.Without.{after_fits}
use Rattle.hidden.proofs.sides.Sides.write_links.Goals as goal

pub loop-k-init : goal.loop-k-init
loop-k-init c = written_none c.requires.room

pub write_link-at-requires : goal.write_link-at-requires
write_link-at-requires c =
    let s = c.args.self.now in
    let room = next_room c.loop-k.invariant (omega arith) in
    record {
      l_in_bounds = rw c.link_after.ensures (simp (length-take, length-drop) (omega arith));
      link_fits = rw c.link_after.ensures (after_fits (table_in s.table.now) s.port s.table.now.well_formed s.parted.can c.requires.can _ (omega arith));
    }

pub loop-k-preserved : goal.loop-k-preserved
loop-k-preserved c =
    written_on c.loop-k.invariant (omega arith) (rw c.link_after.ensures at c.write_link-at.ensures)
