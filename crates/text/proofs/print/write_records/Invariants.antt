-- By the lines that are written.
use Prim.Native.Nat.{◌+◌, ◌-◌, ◌≤◌}
use lib.ListN.{length}
use Rattle.text.specs.Printed.{record_lines}
use Rattle.text.proofs.writer.Part.{WroteUpTo}
use Rattle.text.proofs.print.write_records.Given as goal

abbrev pub invariant-loop-number : goal.invariant-loop-number
invariant-loop-number l =
    let most = length l.records in
    let left = l.number-iterator in
    record {
      part : WroteUpTo (record_lines l.records most 0 0) (record_lines left.iter.rest.now (most - left.count) 0 left.count) l.initial.out l.out;
      most : left.count + length left.iter.rest.now ≤ most;
    }
