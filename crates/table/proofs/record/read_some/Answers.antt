-- A length that passes ends within the table.
use native.Mathlib.Omega.{arith}
use Rattle.table.specs.RecordLaws.{whole}
use Rattle.table.proofs.record.read_some.Goals as goal

pub number_at-n-requires-clause-n_in_bounds : goal.number_at-n-requires-clause-n_in_bounds
number_at-n-requires-clause-n_in_bounds c = omega (arith, whole _ _ (rw c.length_faulty.ensures at c.if-length_faulty.false))
