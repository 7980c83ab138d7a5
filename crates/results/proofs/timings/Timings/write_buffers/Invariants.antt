-- Each turn of the loop writes the record of one link more behind the others, where that link is a buffer.
use Rattle.table.specs.Held.{table_in}
use Rattle.results.proofs.consistent.Buffers.{BuffersWritten}
use Rattle.results.proofs.timings.Timings.write_buffers.Given as goal

abbrev pub invariant-loop-k : goal.invariant-loop-k
invariant-loop-k l = BuffersWritten (table_in l.self.table.now) l.self.weights.now l.self.kept.now l.initial.answer l.answer l.at l.k
