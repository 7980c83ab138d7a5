-- The table that is held in slices.
use Rattle.specification.specs.Table.{Table}
use Rattle.table.specs.Slices.{table_of}
use Rattle.table.specs.declared.slices.Table.{Table as Slices}

abbrev pub table_in : Slices → Table
table_in t = table_of t.ports.now t.links.now
