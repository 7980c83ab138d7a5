-- The steps from r on are a trail through ports that are all marked.
use Rattle.rounds.proofs.back.Course.{Course}
use Rattle.rounds.proofs.back.cycle_back.Given as goal

abbrev pub invariant-loop-r : goal.invariant-loop-r
invariant-loop-r l = Course l.costs l.n l.port l.initial.steps l.steps l.met l.p l.r
