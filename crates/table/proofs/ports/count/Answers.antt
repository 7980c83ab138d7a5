-- By the law of the count.
use native.Mathlib.Omega.{arith}
use Rattle.table.specs.SliceLaws.{count_ports}
use Rattle.table.proofs.ports.count.Goals as goal

pub returns : goal.returns
returns c = omega (arith, count_ports c.args.ports.now)
