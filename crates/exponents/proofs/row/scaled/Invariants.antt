-- One prime factor a turn, until nothing is left: first those to multiply by, then those to divide by.
use Rattle.exponents.proofs.row.Factors.{Partly}
use Rattle.exponents.proofs.row.scaled.Given as goal

abbrev pub invariant-loop-left : goal.invariant-loop-left
invariant-loop-left l = Partly l.initial.row l.row l.times l.left

abbrev pub decreases-loop-left : goal.decreases-loop-left
decreases-loop-left l = l.left

abbrev pub invariant-loop-rest : goal.invariant-loop-rest
invariant-loop-rest l = Partly l.row l.initial.row l.by l.rest

abbrev pub decreases-loop-rest : goal.decreases-loop-rest
decreases-loop-rest l = l.rest
