-- The front is filled.
use mathlib.Core.Path.{refl}
use borrow.Author.Rules.{rules}
use Rattle.weights.proofs.weights.Weighted.{ones_filled}
use Rattle.weights.proofs.weights.ones.Goals as goal

pub returns : goal.returns
returns c = ones_filled c.requires (search rules) refl
