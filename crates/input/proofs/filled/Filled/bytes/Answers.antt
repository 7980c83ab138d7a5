-- What was read stands within the space.
use Rattle.std.proofs.Common.{arith, length-take}
use Rattle.input.proofs.Whole.{whole_ok}
use Rattle.input.proofs.filled.Filled.bytes.Goals as goal

pub slice_bounds-result-end : goal.slice_bounds-result-end
slice_bounds-result-end c =
    let is = whole_ok _ c.in_ok-count.ensures in
    simp length-take (omega (arith, is.1, c.args.self.now.read_into.within))
