-- Each turn of the loop writes the record of one port more behind the others.
use Rattle.table.specs.Held.{table_in}
use Rattle.results.proofs.consistent.Ports.{PortsWritten}
use Rattle.results.proofs.timings.Timings.write_ports.Given as goal

abbrev pub invariant-loop-p : goal.invariant-loop-p
invariant-loop-p l = PortsWritten (table_in l.self.table.now) l.self.weights.now l.self.kept.now l.initial.answer l.answer l.at l.p
