-- The bytes before this one are stored.
use Rattle.records.proofs.write.Laws.{Storing}
use Rattle.records.proofs.write.put_number.Given as goal

abbrev pub invariant-loop-byte : goal.invariant-loop-byte
invariant-loop-byte l = Storing l.n l.v l.byte-items l.byte-index l.x
