-- What is left, put to the lowest so far, gives the lowest of all.
use Rattle.std.specs.Prelude.{◌-◌, length, drop}
use Rattle.std.proofs.Common.{arith}
use lib.ListN.{length-take, length-drop}
use borrow.Author.Tests.{lt-ltb, le-ltb}
use Rattle.hidden.specs.Picked.{number_below, numbers_at, numbers_count}
use Rattle.hidden.specs.Limits.{rest_at, lowest_first, lowest_on, lowest_all}
use Rattle.hidden.specs.OfSides.{some_into}
use Rattle.hidden.proofs.rate.lowest_sender.Goals as goal
use Rattle.hidden.proofs.rate.lowest_sender.Goals.{then-l-lowest, else-l-lowest}

pub bounds-sides-0 : goal.bounds-sides-0
bounds-sides-0 c = some_into c.args.sides.now

pub link-lowest-requires : goal.link-lowest-requires
link-lowest-requires c = let s = c.args.sides.now in number_below s.parted.into_are 0 (some_into s)

pub slice_bounds-k-items-count : goal.slice_bounds-k-items-count
slice_bounds-k-items-count c = omega (arith, some_into c.args.sides.now)

pub slice_bounds-k-items-start : goal.slice_bounds-k-items-start
slice_bounds-k-items-start c = omega (arith, some_into c.args.sides.now)

pub loop-k-init : goal.loop-k-init
loop-k-init c =
    let s = c.args.sides.now in
    lowest_first _ (omega (arith, some_into s, numbers_count s.parted.into_are)) (numbers_at s.parted.into_are 0 (some_into s) c.link-lowest.ensures.whole)

pub link-l-requires : goal.link-l-requires
link-l-requires c =
    let s = c.args.sides.now in
    let rest = rest_at s.into.now c.loop-k.k-index c.loop-k-test.true in
    rw rest.is (number_below s.parted.into_are _ rest.below)

pub loop-k-preserved : goal.loop-k-preserved
loop-k-preserved c =
    let s = c.args.sides.now in
    let rest = rest_at s.into.now c.loop-k.k-index c.loop-k-test.true in
    lowest_on c.loop-k.invariant (omega (arith, rest.below, numbers_count s.parted.into_are)) (numbers_at s.parted.into_are _ rest.below (rw rest.is at c.link-l.ensures.whole))
    (elim c.if-l-lowest.branch [ then-l-lowest w ↦ rw (lt-ltb _ _ w.if-l-lowest.true) w.lowest-is | else-l-lowest w ↦ rw (le-ltb _ _ w.if-l-lowest.false) w.lowest-is ])

pub returns : goal.returns
returns c =
    let s = c.args.sides.now in
    lowest_all c.loop-k.invariant (omega (arith, numbers_count s.parted.into_are, length-take (length s.into.now - 1) (drop 1 s.into.now), length-drop 1 s.into.now))
