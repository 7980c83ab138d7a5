-- What the analysis promises, and the demands that follow from it.
use Rattle.analysis.specs.DemandedLaws.{demanded}
use Rattle.vundayre.proofs.vundayre_analyse.Goals as goal

pub returns-clause-demands : goal.returns-clause-demands
returns-clause-demands c = demanded c.analyse.ensures.analysed
