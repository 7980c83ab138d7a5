-- Each turn of the loop writes the record of one link more behind the others.
use Rattle.specification.specs.Table.{no_link}
use Rattle.specification.specs.Encoding.{encode_link}
use Rattle.encoding.specs.SoFar.{WrittenFirst}
use Rattle.hidden.specs.OfSides.{table_after}
use Rattle.hidden.proofs.sides.Sides.write_links.Given as goal

abbrev pub invariant-loop-k : goal.invariant-loop-k
invariant-loop-k l = WrittenFirst encode_link no_link (table_after l.self).links l.initial.out l.out l.at l.k
