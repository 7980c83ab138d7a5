-- The numbers at its place are those of the port.
use mathlib.Core.Path.{sym, ◌∙◌}
use Rattle.table.specs.SliceLaws.{port_in_lem, port_room}
use Rattle.table.proofs.ports.port.Goals as goal

pub read-requires : goal.read-requires
read-requires c = port_room _ _ c.requires

pub returns : goal.returns
returns c = c.read.ensures ∙ sym (port_in_lem _ _ c.requires)
