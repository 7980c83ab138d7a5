-- One prime factor a turn, until nothing is left: first those to multiply by, then those to divide by.
use Rattle.exponents.proofs.row.Factors.{partly_none, from_two, room_above, room_below, left_falls, multiplied_on, divided_on, scaled_all}
use borrow.Author.Rules.{rules}
use Rattle.exponents.proofs.row.scaled.Goals as goal

pub loop-left-init : goal.loop-left-init
loop-left-init c = search (partly_none, rules)

pub prime_factor-f-requires : goal.prime_factor-f-requires
prime_factor-f-requires c = search (from_two, rules)

pub overflow_add-row : goal.overflow_add-row
overflow_add-row c = record { fits = search (room_above, rules) }

pub loop-left-smaller : goal.loop-left-smaller
loop-left-smaller c = search (left_falls, rules)

pub loop-left-preserved : goal.loop-left-preserved
loop-left-preserved c = search (multiplied_on, rules)

pub loop-rest-init : goal.loop-rest-init
loop-rest-init c = search (partly_none, rules)

pub prime_factor-f-requires-in-loop-rest : goal.prime_factor-f-requires-in-loop-rest
prime_factor-f-requires-in-loop-rest c = search (from_two, rules)

pub overflow_sub-row : goal.overflow_sub-row
overflow_sub-row c = search (room_below, rules)

pub loop-rest-smaller : goal.loop-rest-smaller
loop-rest-smaller c = search (left_falls, rules)

pub loop-rest-preserved : goal.loop-rest-preserved
loop-rest-preserved c = search (divided_on, room_below, rules)

pub returns : goal.returns
returns c = search (scaled_all, rules)
