-- Division finds the case.
use borrow.Author.Rules.{rules}
use Rattle.results.proofs.sizes.Cases.{exact_found, part_found}
use Rattle.results.proofs.sizes.events_needed.Goals as goal

pub returns-then-above-length-eq0 : goal.returns-then-above-length-eq0
returns-then-above-length-eq0 c = search (exact_found, rules)

pub returns-else-above-length-eq0 : goal.returns-else-above-length-eq0
returns-else-above-length-eq0 c = search (part_found, rules)
