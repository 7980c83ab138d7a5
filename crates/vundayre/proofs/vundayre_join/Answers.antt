-- What the join promises, and what follows from it.
use Rattle.joins.specs.JoinDemands.{join_demanded}
use Rattle.vundayre.proofs.vundayre_join.Goals as goal

pub returns-clause-demands : goal.returns-clause-demands
returns-clause-demands c = join_demanded c.join.ensures
