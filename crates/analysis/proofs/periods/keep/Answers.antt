-- After so many turns so many ports hold theirs.
use Rattle.std.proofs.Common.{rules}
use native.Mathlib.Omega.{arith}
use Rattle.analysis.proofs.periods.Keeping.{low_at, keeping_on}
use Rattle.analysis.proofs.periods.keep.Goals as goal

pub offset_bounds-kept-p : goal.offset_bounds-kept-p
offset_bounds-kept-p c = omega (arith, low_at c.requires c.loop-port-test.true)

pub bounds-kept-p : goal.bounds-kept-p
bounds-kept-p c = low_at c.requires c.loop-port-test.true

pub loop-port-preserved : goal.loop-port-preserved
loop-port-preserved c =
    let low = low_at c.requires c.loop-port-test.true in
    keeping_on c.loop-port.invariant c.loop-port-test.true (omega arith) (search rules)
