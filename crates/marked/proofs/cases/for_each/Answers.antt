-- Each call so far found a case.
use Rattle.std.proofs.Common.{rules, arith, of_calls}
use Rattle.marked.proofs.cases.Calls.{found_none, found_on, found_end, found_all}
use Rattle.marked.proofs.cases.for_each.Goals as goal

pub loop-init : goal.loop-init
loop-init g c = (c.requires, found_none _ _)

pub returns-then-is_none : goal.returns-then-is_none
returns-then-is_none g c = found_end _ _ c.loop.invariant.1 c.next.result (omega arith) (search rules) c.next.ensures

pub loop-preserved : goal.loop-preserved
loop-preserved g c = (search of_calls, found_on _ _ c.loop.invariant.1 c.next.result (omega arith) (search rules) c.next.ensures)

pub returns : goal.returns
returns g c = found_all _ _ c.loop.invariant.1 (omega arith)
