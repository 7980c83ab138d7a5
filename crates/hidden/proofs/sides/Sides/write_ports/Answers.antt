-- Each turn of the loop writes the record of one port more behind the others.
use Rattle.std.proofs.Common.{arith}
use lib.ListN.{length-take, length-drop}
use Rattle.table.specs.Held.{table_in}
use Rattle.encoding.specs.EncodingLaws.{port_length}
use Rattle.encoding.specs.SoFar.{written_none, next_room, written_on, written_all}
use Rattle.hidden.specs.Without.{after_ports}
use Rattle.hidden.proofs.sides.Sides.write_ports.Goals as goal

pub loop-q-init : goal.loop-q-init
loop-q-init c = written_none c.requires.room

pub write_port-at-requires : goal.write_port-at-requires
write_port-at-requires c =
    let s = c.args.self.now in
    let count = after_ports (table_in s.table.now) s.port s.table.now.well_formed s.parted.can in
    let room = rw port_length at (next_room c.loop-q.invariant (omega (arith, count))) in
    simp (length-take, length-drop) (omega arith)

pub loop-q-preserved : goal.loop-q-preserved
loop-q-preserved c =
    let s = c.args.self.now in
    let count = after_ports (table_in s.table.now) s.port s.table.now.well_formed s.parted.can in
    written_on c.loop-q.invariant (omega (arith, count)) (rw c.port_after.ensures at c.write_port-at.ensures)

pub returns : goal.returns
returns c =
    let s = c.args.self.now in
    written_all c.loop-q.invariant (omega (arith, after_ports (table_in s.table.now) s.port s.table.now.well_formed s.parted.can))
