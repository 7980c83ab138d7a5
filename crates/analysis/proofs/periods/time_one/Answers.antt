-- Without connections the period is the greatest limit, if there is one.
use mathlib.Core.Path.{sym}
use borrow.Author.Tests.{eqb-true}
use Rattle.period.specs.ComponentLaws.{limited}
use Rattle.analysis.proofs.periods.Turns.{members_of, component_of, ports_of_lem, idle, idle_without}
use Rattle.analysis.proofs.periods.time_one.Goals as goal

pub greatest_limit-requires : goal.greatest_limit-requires
greatest_limit-requires c = record {
  port_numbers = ports_of_lem c.requires.component_slices;
  limited = limited (component_of c.requires.component_slices);
}

pub returns-in-Some : goal.returns-in-Some
returns-in-Some c = idle c.requires.component_slices (eqb-true _ _ (sym c.if-is_empty.ensures)) _ c.in-Some.ensures c.keep.ensures

pub returns-in-None : goal.returns-in-None
returns-in-None c = idle_without c.requires.component_slices (eqb-true _ _ (sym c.if-is_empty.ensures)) _ _ c.in-None.ensures

pub keep-requires : goal.keep-requires
keep-requires c = members_of c.requires.component_slices
