-- Each turn of the loop writes the record of one link more behind the others.
use Rattle.specification.specs.Table.{no_link}
use Rattle.specification.specs.Encoding.{encode_link}
use Rattle.table.specs.Slices.{links_of}
use Rattle.encoding.specs.SoFar.{WrittenFirst}
use Rattle.encoding.proofs.write_links.Given as goal

abbrev pub invariant-loop-k : goal.invariant-loop-k
invariant-loop-k l = WrittenFirst encode_link no_link (links_of l.links) l.initial.out l.out l.at l.k
