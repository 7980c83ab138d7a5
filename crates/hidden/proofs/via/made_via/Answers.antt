-- Its parts are those of the definition.
use Rattle.hidden.specs.ViaParts.{via_is}
use Rattle.hidden.proofs.via.made_via.Goals as goal

pub returns : goal.returns
returns c = via_is c.args.x c.args.y c.reduced-ratio.ensures c.ticks_via.ensures c.delta_via.ensures
