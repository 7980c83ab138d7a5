-- What hiding promises, and what follows from it.
use Rattle.hiding_laws.specs.HideDemands.{hide_demanded}
use Rattle.vundayre.proofs.vundayre_hide.Goals as goal

pub returns-clause-demands : goal.returns-clause-demands
returns-clause-demands c = hide_demanded c.hide.ensures
