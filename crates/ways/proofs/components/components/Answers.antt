-- The labels stay sound, and each pass that changes one lowers their sum, the measure.
use Rattle.ways.proofs.components.Lowest.{lowest_all}
use Rattle.ways.proofs.components.Owned.{own_sound}
use Rattle.ways.proofs.components.components.Goals as goal

pub loop-init : goal.loop-init
loop-init c = own_sound c.own_labels-labels.ensures

pub returns : goal.returns
returns c =
    lowest_all (c.pass.ensures.even c.loop-test.false) c.args.table.now.well_formed c.pass.ensures.sound
