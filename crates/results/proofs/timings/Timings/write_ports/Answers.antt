-- Each turn of the loop writes the record of one port more behind the others.
use native.Mathlib.Omega.{arith}
use Rattle.results.proofs.consistent.Ports.{ports_none, ports_on}
use Rattle.results.proofs.timings.Timings.write_ports.Goals as goal

pub loop-p-init : goal.loop-p-init
loop-p-init c = ports_none

pub loop-p-preserved : goal.loop-p-preserved
loop-p-preserved c = ports_on c.args.self.now.numbers c.requires c.loop-p.invariant (omega arith) c.write_port-at.ensures
