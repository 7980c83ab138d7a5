-- Each pass but the last reaches a port. The measure is how many of 64 are left.
use Rattle.forest.proofs.spanning.Spanning.{passed_less, closed_spanned}
use Rattle.forest.proofs.spanning.Starting.{start_spreading}
use Rattle.forest.proofs.forest.Forest.spanning.Goals as goal

pub loop-growing-init : goal.loop-growing-init
loop-growing-init c =
    start_spreading c.args.table.now.well_formed c.requires.components (rw c.port_count.ensures at c.roots-growing.ensures) c.requires.rows_value

pub returns-then-growing-before-clause-spanned : goal.returns-then-growing-before-clause-spanned
returns-then-growing-before-clause-spanned c =
    closed_spanned (c.pass.ensures.closed c.if-growing-before.true) c.requires.components c.pass.ensures.spreading

pub loop-growing-smaller : goal.loop-growing-smaller
loop-growing-smaller c = passed_less c.pass.ensures c.if-growing-before.false
