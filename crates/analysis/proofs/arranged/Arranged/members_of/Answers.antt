-- The part of an order by keys that is one key's.
use Rattle.std.proofs.Common.{◌∙◌, arith}
use Rattle.analysis.proofs.Ordering.{inside, keyed_part}
use Rattle.analysis.proofs.arranged.Arranged.members_of.Goals as goal

pub part-requires-clause-inside : goal.part-requires-clause-inside
part-requires-clause-inside c = inside c.args.self.now.members_ordered _ (omega arith)

pub returns : goal.returns
returns c = record { are = c.part.ensures ∙ keyed_part c.args.self.now.members_ordered _ (omega arith) }
