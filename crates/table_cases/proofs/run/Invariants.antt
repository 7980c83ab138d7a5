-- The bytes left to read fall.
use Rattle.std.proofs.Common.{length}
use Rattle.table_cases.proofs.run.Given as goal

abbrev pub decreases-loop-table : goal.decreases-loop-table
decreases-loop-table g l = length l.s
