-- Equal rows are equal numbers, and only these.
use borrow.Author.Rules.{rules}
use Rattle.forest.proofs.agreement.Compared.{compared_rows, compared}
use Rattle.forest.proofs.agreement.fits.Goals as goal

pub returns-then-l : goal.returns-then-l
returns-then-l c = compared_rows c.requires.link_fits c.requires.port_rows c.if-l.true c.same.ensures

pub returns-else-l : goal.returns-else-l
returns-else-l c = compared c.requires.link_fits c.requires.port_rows c.scaled-row.ensures (search rules) c.same-else-l.ensures
