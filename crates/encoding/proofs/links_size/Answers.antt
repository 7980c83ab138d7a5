-- The sum of the lengths of the links' records.
use mathlib.Core.Path.{refl, ◌∙◌}
use native.Mathlib.Omega.{arith}
use native.Mathlib.Nat.{sub-zero}
use lib.ListN.{length, get_or}
use Rattle.std.proofs.lemmas.Iterator.{YieldsList-from_range, YieldsList-from_map}
use Rattle.std.proofs.lemmas.Iterator.Consumers.{YieldsList-at, sum_from_yields_List, fits_from_yields_list}
use Rattle.specification.specs.Table.{no_link}
use Rattle.specification.specs.Encoding.{encode_link}
use Rattle.table.specs.Slices.{links_of}
use Rattle.encoding.specs.EncodingLaws.{links_most}
use Rattle.encoding.specs.SoFar.{sizes_all}
use borrow.Author.Rules.{rules}
use Rattle.encoding.proofs.links_size.Goals as goal

pub sum-requires-clause-fits : goal.sum-requires-clause-fits
sum-requires-clause-fits c =
    fits_from_yields_list _ _
    (YieldsList-from_map _ (λ k. length (encode_link (get_or (links_of c.args.links.now) k no_link)))
    (YieldsList-at c.map.ensures.source (YieldsList-from_range 0 c.count.result c.count.result refl (sub-zero c.count.result))) c.map.ensures.closure (λ x r q k. search rules))
    (omega (arith, sizes_all encode_link no_link (links_of c.args.links.now) c.count.result c.count.ensures, links_most (links_of c.args.links.now), c.requires.few))

pub returns : goal.returns
returns c =
    sum_from_yields_List _ _ c.sum.ensures.ran
    (YieldsList-from_map _ (λ k. length (encode_link (get_or (links_of c.args.links.now) k no_link)))
    (YieldsList-at c.map.ensures.source (YieldsList-from_range 0 c.count.result c.count.result refl (sub-zero c.count.result))) c.map.ensures.closure (λ x r q k. search rules))
    ∙ sizes_all encode_link no_link _ _ c.count.ensures
