-- The components below c have periods, those kept are the least, and nothing is written.
use mathlib.Core.Path.{◌≡◌}
use lib.ListN.{length}
use Rattle.table.specs.Held.{table_in}
use Rattle.analysis.proofs.periods.Turns.{Turns}
use Rattle.analysis.proofs.periods.time_all.Given as goal

abbrev pub invariant-loop-c : goal.invariant-loop-c
invariant-loop-c l = record {
  turns : Turns (table_in l.arranged.table.now) l.weights l.kept l.initial.answer l.answer l.least l.c;
  same_length : length l.work ≡ length l.initial.work;
}
