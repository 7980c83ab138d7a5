-- The numbers at its place are those of the link.
use Rattle.table.specs.SliceLaws.{same_link, link_room}
use Rattle.table.proofs.links.link.Goals as goal

pub read-requires : goal.read-requires
read-requires c = link_room _ _ c.requires

pub returns : goal.returns
returns c = same_link _ _ c.requires c.read.ensures
