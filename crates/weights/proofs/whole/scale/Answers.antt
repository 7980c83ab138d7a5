-- The least factor is the denominator in lowest terms.
use Rattle.weights.proofs.whole.Multiplying.{den_is, scale_factor}
use Rattle.weights.proofs.whole.scale.Goals as goal

pub multiply-requires : goal.multiply-requires
multiply-requires c = scale_factor c.requires c.reduced-f.ensures

pub returns : goal.returns
returns c = rw (den_is c.requires c.reduced-f.ensures) at c.multiply.ensures
