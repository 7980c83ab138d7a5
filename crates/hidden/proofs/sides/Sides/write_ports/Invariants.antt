-- Each turn of the loop writes the record of one port more behind the others.
use Rattle.specification.specs.Table.{no_port}
use Rattle.specification.specs.Encoding.{encode_port}
use Rattle.encoding.specs.SoFar.{WrittenFirst}
use Rattle.hidden.specs.OfSides.{table_after}
use Rattle.hidden.proofs.sides.Sides.write_ports.Given as goal

abbrev pub invariant-loop-q : goal.invariant-loop-q
invariant-loop-q l = WrittenFirst encode_port no_port (table_after l.self).ports l.initial.out l.out l.at l.q
