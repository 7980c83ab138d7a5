-- The timing of the table that a value holds.
use Rattle.specification.specs.Answers.{Timing}
use Rattle.table.specs.Held.{table_in}
use Rattle.results.specs.Kept.{timing_of}
use Rattle.results.specs.declared.timings.Timings.{Timings}

abbrev pub timing_in : Timings → Timing
timing_in s = timing_of (table_in s.table.now) s.weights.now s.kept.now
