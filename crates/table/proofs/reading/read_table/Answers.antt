-- By the result and the count.
use Rattle.specification.specs.Reading.{read_table}
use Rattle.table.proofs.reading.Filling.{no_port_lem, some_port_lem, faulty}
use borrow.Author.Rules.{rules}
use Rattle.table.proofs.reading.read_table.Goals as goal

pub returns-in_err-read : goal.returns-in_err-read
unfolding read_table
returns-in_err-read c = faulty c.in_err-read.ensures (search rules)

pub returns-then-read-eq0 : goal.returns-then-read-eq0
unfolding read_table
returns-then-read-eq0 c = no_port_lem c.in_ok-read.ensures c.if-read-eq0.true c.into.ensures

pub returns : goal.returns
unfolding read_table
returns c = some_port_lem c.in_ok-read.ensures c.if-read-eq0.false
