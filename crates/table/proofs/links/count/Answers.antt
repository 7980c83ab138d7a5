-- By the law of the count.
use native.Mathlib.Omega.{arith}
use Rattle.table.specs.SliceLaws.{count_links}
use Rattle.table.proofs.links.count.Goals as goal

pub returns : goal.returns
returns c = omega (arith, count_links c.args.links.now)
