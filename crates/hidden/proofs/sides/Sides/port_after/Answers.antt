-- The lowered rate, or the port with that old number.
use Rattle.std.specs.Prelude.{◌≡◌, ◌-◌, ◌≢◌, Some}
use Rattle.std.proofs.Common.{arith, sym}
use Rattle.specification.specs.Table.{port_count}
use Rattle.specification.specs.declared.Port.{Port}
use Rattle.table.specs.Held.{table_in}
use Rattle.hiding_laws.specs.PortNumbers.{old_below}
use Rattle.hiding_laws.specs.IsHidden.{hidden_port}
use Rattle.hidden.specs.Without.{port_lowered, port_same}
use Rattle.hidden.proofs.sides.Sides.port_after.Goals as goal
use Rattle.hidden.proofs.sides.Sides.port_after.Goals.{in_default-via-in-Some+else-limit-old, in_default-via-in_default}

pub port-requires : goal.port-requires
port-requires c =
    let s = c.args.self.now in
    let t = table_in s.table.now in
    let here = (hidden_port t s.port s.parted.can).below in
    let below = old_below s.port c.args.q (port_count t - 1) (omega arith) (omega arith) in
    rw c.old_number-old.ensures (omega (arith, below))

pub returns-in-Some : goal.returns-in-Some
returns-in-Some c =
    let s = c.args.self.now in
    port_lowered (table_in s.table.now) s.port s.table.now.well_formed s.parted.can c.args.q c.old_number-old.ensures c.requires.limit_is (sym c.in-Some.is) c.if-limit-old.true

pub returns-in_default : goal.returns-in_default
returns-in_default c =
    let s = c.args.self.now in
    let other : (r : Port) → Some r ≡ c.args.limit.rate → c.args.limit.sender ≢ c.old_number-old.result =
    λ r e. elim c.in_default.branch [
      | in_default-via-in-Some+else-limit-old w ↦ w.if-limit-old.false
      | in_default-via-in_default w ↦ λ q. w.in_default.not-Some r (sym e)
    ] in
    port_same (table_in s.table.now) s.port s.table.now.well_formed s.parted.can c.args.q c.old_number-old.ensures c.requires.limit_is other c.port.ensures
