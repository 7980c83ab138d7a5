-- Each digit in turn.
use Rattle.hide_report.proofs.Digits.{Spelled}
use Rattle.hide_report.proofs.argument.port_number.Given as goal

abbrev pub invariant-loop-c : goal.invariant-loop-c
invariant-loop-c l = Spelled l.argument l.c-index l.number
