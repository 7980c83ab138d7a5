-- Each turn of the loop writes the record of one port more behind the others.
use Rattle.specification.specs.Table.{no_port}
use Rattle.specification.specs.Encoding.{encode_port}
use Rattle.table.specs.Slices.{ports_of}
use Rattle.encoding.specs.SoFar.{WrittenFirst}
use Rattle.encoding.proofs.write_ports.Given as goal

abbrev pub invariant-loop-p : goal.invariant-loop-p
invariant-loop-p l = WrittenFirst encode_port no_port (ports_of l.ports) l.initial.out l.out l.at l.p
