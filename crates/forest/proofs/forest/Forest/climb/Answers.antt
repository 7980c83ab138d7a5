-- Each turn of the loop goes up from the end that was reached later. The measure is the sum of the places of both in the order.
use mathlib.Core.Path.{◌≡◌}
use lib.ListN.{length}
use borrow.Author.Rules.{rules}
use Rattle.forest.proofs.loops.Writing.{turn_none, turn_up, turn_back}
use Rattle.forest.proofs.forest.Forest.climb.Goals as goal

pub loop-a-init : goal.loop-a-init
loop-a-init c =
    let l = c.link-l.ensures.fields in
    let long : length c.args.down.now ≡ 128 = search rules in
    rw (l.to, l.from) (turn_none c.requires long c.put_step.ensures)

pub loop-a-preserved-then-self-b : goal.loop-a-preserved-then-self-b
loop-a-preserved-then-self-b c = search (turn_up, rules)

pub loop-a-preserved : goal.loop-a-preserved
loop-a-preserved c =
    turn_back c.requires c.loop-a.invariant c.loop-a-test.true c.if-self-b.false _ c.parent-up-else-self-b.ensures c.put_step-else-self-b.ensures
