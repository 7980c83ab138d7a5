-- The bytes that are left, and the number that the others stand for.
use Rattle.std.specs.Slice.Iter.{iter_rest}
use Rattle.std.specs.Iterator.Adapters.{rev_source}
use Rattle.records.proofs.read.Reading.{Reading}
use Rattle.records.proofs.read.number_at.Given as goal

abbrev pub invariant-loop-x : goal.invariant-loop-x
invariant-loop-x l = Reading l.s l.at l.n (iter_rest (rev_source l.x-iterator)) l.v
