-- By whether there is room.
use native.Mathlib.Omega.{arith}
use Rattle.joins.proofs.Outcomes.{too_short, long_enough}
use Rattle.joins.proofs.write_joined.Goals as goal

pub returns-then-out-table_size : goal.returns-then-out-table_size
returns-then-out-table_size c = rw c.number.ensures (too_short _ (omega (arith, c.table_size.ensures)))

pub returns : goal.returns
returns c = long_enough _ (omega (arith, c.table_size.ensures)) c.write_table-written.ensures
