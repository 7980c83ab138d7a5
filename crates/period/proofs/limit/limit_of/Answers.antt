-- By the test of rate times weight.
use Rattle.period.proofs.limit.Read.{read_none, read_limit}
use Rattle.period.proofs.limit.limit_of.Goals as goal

pub returns-then-over-eq0 : goal.returns-then-over-eq0
returns-then-over-eq0 c = read_none c.requires c.port-rate.ensures c.if-over-eq0.true

pub returns : goal.returns
returns c = read_limit c.requires c.port-rate.ensures c.if-over-eq0.false c.reduced.ensures
