use Rattle.hidden.specs.OfSides.{made_length}
use Rattle.hidden.proofs.sides.Sides.made_count.Goals as goal

pub returns : goal.returns
returns c = made_length c.args.self.now
