-- Each turn of the loop adds the bytes of one link more.
use Rattle.std.proofs.Common.{arith}
use Rattle.hidden.specs.Picked.{numbers_count}
use Rattle.hidden.specs.Sizes.{size_none, size_on, size_most, size_all}
use Rattle.hidden.specs.OfSides.{apart_most, size_at}
use Rattle.hidden.proofs.sides.Sides.apart_size.Goals as goal

pub loop-k-init : goal.loop-k-init
loop-k-init c = size_none

pub overflow_add-size : goal.overflow_add-size
overflow_add-size c =
    let s = c.args.self.now in
    let more = size_on c.loop-k.invariant (omega (arith, numbers_count s.parted.apart_are)) (size_at s c.loop-k-test.true c.from.ensures c.link_size-size.ensures) in
    omega (arith, size_most more, numbers_count s.parted.apart_are, apart_most s)

pub loop-k-preserved : goal.loop-k-preserved
loop-k-preserved c =
    let s = c.args.self.now in
    size_on c.loop-k.invariant (omega (arith, numbers_count s.parted.apart_are)) (size_at s c.loop-k-test.true c.from.ensures c.link_size-size.ensures)

pub returns : goal.returns
returns c = size_all c.loop-k.invariant (omega (arith, numbers_count c.args.self.now.parted.apart_are))
