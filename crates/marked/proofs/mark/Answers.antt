-- Each byte is the mark.
use Rattle.marked.proofs.Counting.{none_changed}
use Rattle.marked.proofs.mark.Goals as goal

pub returns : goal.returns
returns c = rw (c.fill.ensures.after (λ y e. e)) (none_changed _)
