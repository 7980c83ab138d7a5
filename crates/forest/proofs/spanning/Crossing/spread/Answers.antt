-- The row of p as it is where the ratio is 1, or multiplied and divided.
use borrow.Author.Rules.{rules}
use Rattle.forest.proofs.spanning.Following.{spread_same, spread_on}
use Rattle.forest.proofs.spanning.Crossing.spread.Goals as goal
use Rattle.forest.proofs.spanning.Crossing.spread.Goals.{then-self, else-self}

pub returns : goal.returns
returns c = elim c.if-self.branch [
  | then-self w ↦ rw w.rows-is (spread_same c.requires w.if-self.true)
  | else-self w ↦ rw w.rows-is (spread_on c.requires w.scaled.ensures (search rules) w.if-self.false)
]
