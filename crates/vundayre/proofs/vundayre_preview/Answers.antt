-- What the preview promises, and what follows from it.
use Rattle.previews.specs.PreviewDemands.{preview_demanded}
use Rattle.vundayre.proofs.vundayre_preview.Goals as goal

pub returns-clause-demands : goal.returns-clause-demands
returns-clause-demands c = preview_demanded c.preview.ensures
