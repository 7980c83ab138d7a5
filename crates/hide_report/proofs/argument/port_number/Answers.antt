-- Each digit in turn.
use Rattle.std.proofs.Common.{rules, sym, eqb-true, arith}
use Rattle.std.proofs.lemmas.Bool.{eqb-false}
use Rattle.hide_report.proofs.Digits.{named_none, named_off, spelled_on, named_all}
use Rattle.hide_report.proofs.argument.port_number.Goals as goal

pub returns-then-is_empty : goal.returns-then-is_empty
returns-then-is_empty c = named_none _ (eqb-true _ _ (sym c.if-is_empty.ensures))

pub returns-then-not-is_ascii_digit : goal.returns-then-not-is_ascii_digit
returns-then-not-is_ascii_digit c = named_off c.loop-c.invariant (omega arith) (search rules)

pub loop-c-preserved : goal.loop-c-preserved
loop-c-preserved c =
    spelled_on c.loop-c.invariant (omega arith) (search rules) (omega (arith, c.from.ensures, c.min-number.ensures))

pub returns : goal.returns
returns c =
    let empty = eqb-false _ _ (sym c.if-is_empty.ensures) in
    named_all c.loop-c.invariant (omega arith) (omega (arith, empty))
