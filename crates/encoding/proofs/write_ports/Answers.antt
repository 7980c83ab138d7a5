-- Each turn of the loop writes the record of one port more behind the others.
use native.Mathlib.Omega.{arith}
use lib.ListN.{length-take, length-drop}
use Rattle.encoding.specs.EncodingLaws.{port_length}
use Rattle.encoding.specs.SoFar.{written_none, next_room, written_on}
use Rattle.encoding.proofs.write_ports.Goals as goal

pub loop-p-init : goal.loop-p-init
loop-p-init c = written_none c.requires

pub write_port-at-requires : goal.write_port-at-requires
write_port-at-requires c =
    let room = rw port_length at (next_room c.loop-p.invariant (omega arith)) in
    simp (length-take, length-drop) (omega arith)

pub loop-p-preserved : goal.loop-p-preserved
loop-p-preserved c = written_on c.loop-p.invariant (omega arith) (rw c.port.ensures at c.write_port-at.ensures)
