-- A line put at the front is written.
use native.Mathlib.Omega.{arith}
use borrow.Author.Rules.{rules}
use Rattle.text.specs.Writer.{written}
use Rattle.text.proofs.print.print_line.Goals as goal

pub returns-clause-written : goal.returns-clause-written
returns-clause-written c = written c.new-out.ensures c.word.ensures (omega arith) (search rules)
