-- Where the rows fit m and l is parallel to it, they fit l uncompared.
use Rattle.forest.proofs.agreement.Parallels.{parallel_fits}
use Rattle.forest.proofs.agreement.agrees.Goals as goal

pub returns-in-Some : goal.returns-in-Some
returns-in-Some c = parallel_fits (rw c.in-Some.is at c.requires.known_to_fit) c.parallel.ensures c.if-parallel.true
