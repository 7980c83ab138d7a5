-- What the search finds is kept or shown.
use Rattle.period.specs.ComponentLaws.{limited}
use Rattle.analysis.proofs.periods.Turns.{members_of, component_of, ports_of_lem, settled, without, shown, named_floor, named_block}
use Rattle.analysis.proofs.periods.search_one.Goals as goal

pub greatest_limit-greatest-requires : goal.greatest_limit-greatest-requires
greatest_limit-greatest-requires c = record {
  port_numbers = ports_of_lem c.requires.component_slices;
  limited = limited (component_of c.requires.component_slices);
}

pub keep-requires : goal.keep-requires
keep-requires c = members_of c.requires.component_slices

pub least_period-requires-clause-component : goal.least_period-requires-clause-component
least_period-requires-clause-component c = component_of c.requires.component_slices

pub show_blocked-requires-clause-named_floor : goal.show_blocked-requires-clause-named_floor
show_blocked-requires-clause-named_floor c = named_floor c.requires.component_slices c.in-Blocked.ensures.search_result

pub show_blocked-requires-clause-named_block : goal.show_blocked-requires-clause-named_block
show_blocked-requires-clause-named_block c = named_block c.requires.component_slices c.in-Blocked.ensures.search_result

pub returns-in-Least : goal.returns-in-Least
returns-in-Least c = settled c.requires.component_slices _ _ c.in-Least.ensures.search_result c.keep.ensures

pub returns-in-NoLeast : goal.returns-in-NoLeast
returns-in-NoLeast c = without c.requires.component_slices _ _ _ c.in-NoLeast.ensures.search_result

pub returns-in-Blocked : goal.returns-in-Blocked
returns-in-Blocked c = shown c.requires.component_slices c.in-Blocked.ensures.search_result _ c.show_blocked.ensures
