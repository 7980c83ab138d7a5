-- The climb met at one port, and the steps down are copied behind the steps up.
use Rattle.forest.proofs.loops.Ending.{met_closed}
use Rattle.forest.proofs.forest.Forest.close.Goals as goal

pub returns : goal.returns
returns c = met_closed c.requires c.climb-places.ensures _ c.copy_from_slice.ensures.after
