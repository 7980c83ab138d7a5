-- Each call so far found a case.
use Rattle.marked.proofs.cases.Calls.{FoundFirst}
use Rattle.marked.proofs.cases.for_each.Given as goal

abbrev pub invariant-loop : goal.invariant-loop
invariant-loop g l = goal.F-IsAlwaysCallable g l.next × FoundFirst (goal.F-step g) l.initial.next l.counter l.next
