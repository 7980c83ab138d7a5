-- The hidden rate, carried along the connection of the lowest sender.
use Rattle.table.specs.Held.{table_in}
use Rattle.hiding_laws.specs.IsHidden.{hidden_port, sender_port, sender_fits}
use Rattle.hidden.specs.Limits.{limit_none, limit_some}
use Rattle.hidden.proofs.rate.limit_of.Goals as goal

pub port-hidden-requires : goal.port-hidden-requires
port-hidden-requires c = let s = c.args.sides.now in (hidden_port (table_in s.table.now) s.port s.parted.can).below

pub returns-then-hidden-eq0 : goal.returns-then-hidden-eq0
returns-then-hidden-eq0 c =
    let s = c.args.sides.now in limit_none (table_in s.table.now) s.port c.lowest_sender-l.ensures c.port-hidden.ensures c.if-hidden-eq0.true

pub carried_rate-rate-requires-clause-num_fits : goal.carried_rate-rate-requires-clause-num_fits
carried_rate-rate-requires-clause-num_fits c =
    let s = c.args.sides.now in rw c.lowest_sender-l.ensures (sender_fits (table_in s.table.now) s.port s.table.now.well_formed s.parted.can).num

pub carried_rate-rate-requires-clause-den_fits : goal.carried_rate-rate-requires-clause-den_fits
carried_rate-rate-requires-clause-den_fits c =
    let s = c.args.sides.now in rw c.lowest_sender-l.ensures (sender_fits (table_in s.table.now) s.port s.table.now.well_formed s.parted.can).den

pub port-requires : goal.port-requires
port-requires c =
    let s = c.args.sides.now in rw c.lowest_sender-l.ensures (sender_port (table_in s.table.now) s.port s.table.now.well_formed s.parted.can).below

pub returns : goal.returns
returns c =
    let s = c.args.sides.now in
    rw c.then_some.ensures
    (limit_some (table_in s.table.now) s.port c.lowest_sender-l.ensures c.port-hidden.ensures c.if-hidden-eq0.false c.carried_rate-rate.ensures.value c.port.ensures c.is_slower-lowers.ensures)
