-- Each turn adds the pair of one connection into the port and one out of it.
use Rattle.std.proofs.Common.{arith, sym, ◌∙◌}
use Rattle.hidden.specs.Picked.{numbers_at, numbers_count}
use Rattle.hidden.proofs.via.Pairs.{none_at_first, none_on, none_next, one_leaves, none_leave}
use Rattle.hidden.proofs.via.any_leaves.Goals as goal

pub loop-first-init : goal.loop-first-init
loop-first-init c = none_at_first _ _

pub loop-second-init : goal.loop-second-init
loop-second-init c = c.loop-first.invariant

pub returns-then-leaves_range : goal.returns-then-leaves_range
returns-then-leaves_range c =
    let s = c.args.sides.now in
    sym (one_leaves _ _ c.loop-second.invariant (omega (arith, numbers_count s.parted.into_are, c.loop-first-test.true)) (omega (arith, numbers_count s.parted.from_are, c.loop-second-test.true))
    (numbers_at s.parted.into_are _ c.loop-first-test.true c.link-x.ensures.whole)
    (numbers_at s.parted.from_are _ c.loop-second-test.true c.link.ensures.whole)
    c.made_via.ensures
    (sym c.leaves_range.ensures ∙ c.if-leaves_range.true))

pub loop-second-preserved : goal.loop-second-preserved
loop-second-preserved c =
    let s = c.args.sides.now in
    none_on _ _ c.loop-second.invariant
    (numbers_at s.parted.into_are _ c.loop-first-test.true c.link-x.ensures.whole)
    (numbers_at s.parted.from_are _ c.loop-second-test.true c.link.ensures.whole)
    c.made_via.ensures
    (sym c.leaves_range.ensures ∙ c.if-leaves_range.false)

pub loop-first-preserved : goal.loop-first-preserved
loop-first-preserved c = none_next _ _ c.loop-second.invariant (omega (arith, numbers_count c.args.sides.now.parted.from_are))

pub returns : goal.returns
returns c = sym (none_leave _ _ c.loop-first.invariant (omega (arith, numbers_count c.args.sides.now.parted.into_are)))
