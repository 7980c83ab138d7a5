-- What fills the slices from each place fills them from the start; the bytes left fall.
use mathlib.Core.Path.{refl}
use native.Mathlib.Omega.{arith}
use Rattle.table.proofs.reading.Turn.{started, port_turn, link_turn, port_fits, link_fits, port_read, link_read, refused, ended}
use Rattle.table.proofs.reading.read_on.Goals as goal

pub loop-read-init : goal.loop-read-init
loop-read-init c = started _ _ _ c.requires refl

pub store-requires : goal.store-requires
store-requires c =
    let fits = port_fits (port_turn c.loop-read.invariant c.read_record.ensures c.in-Ok-Some.is c.in-Ok-Some.field-0-is c.in-Port.is) in
    record { p_in_bounds = fits.0; port_fits = fits.1 }

pub with_port-b-requires : goal.with_port-b-requires
with_port-b-requires c =
    let w = port_turn c.loop-read.invariant c.read_record.ensures c.in-Ok-Some.is c.in-Ok-Some.field-0-is c.in-Port.is in
    record { ports_bound = omega (arith, w.told); named_bound = omega (arith, w.told, w.going.room) }

pub loop-read-smaller-in-Port : goal.loop-read-smaller-in-Port
loop-read-smaller-in-Port c =
    let w = port_turn c.loop-read.invariant c.read_record.ensures c.in-Ok-Some.is c.in-Ok-Some.field-0-is c.in-Port.is in
    omega (arith, w.told)

pub loop-read-preserved-in-Port : goal.loop-read-preserved-in-Port
loop-read-preserved-in-Port c =
    port_read (port_turn c.loop-read.invariant c.read_record.ensures c.in-Ok-Some.is c.in-Ok-Some.field-0-is c.in-Port.is) c.store.ensures c.with_port-b.ensures

pub move_up-requires : goal.move_up-requires
move_up-requires c =
    let w = link_turn c.loop-read.invariant c.read_record.ensures c.in-Ok-Some.is c.in-Ok-Some.field-0-is c.in-Link.is in
    record {
      from_bound = omega (arith, w.told.fits, w.going.room, w.going.apart);
      to_bound = omega (arith, w.told.fits, w.going.room, w.going.apart);
    }

pub store-requires-in-Link : goal.store-requires-in-Link
store-requires-in-Link c =
    let fits = link_fits (link_turn c.loop-read.invariant c.read_record.ensures c.in-Ok-Some.is c.in-Ok-Some.field-0-is c.in-Link.is) c.move_up.ensures in
    record { k_in_bounds = fits.0; link_fits = fits.1 }

pub with_link-b-requires : goal.with_link-b-requires
with_link-b-requires c =
    let w = link_turn c.loop-read.invariant c.read_record.ensures c.in-Ok-Some.is c.in-Ok-Some.field-0-is c.in-Link.is in
    omega (arith, w.told)

pub loop-read-smaller : goal.loop-read-smaller
loop-read-smaller c =
    let w = link_turn c.loop-read.invariant c.read_record.ensures c.in-Ok-Some.is c.in-Ok-Some.field-0-is c.in-Link.is in
    omega (arith, w.told)

pub loop-read-preserved : goal.loop-read-preserved
loop-read-preserved c =
    link_read (link_turn c.loop-read.invariant c.read_record.ensures c.in-Ok-Some.is c.in-Ok-Some.field-0-is c.in-Link.is)
    c.move_up.ensures c.store-in-Link.ensures c.with_link-b.ensures

pub returns-in-Ok-None : goal.returns-in-Ok-None
returns-in-Ok-None c = ended c.loop-read.invariant c.read_record.ensures c.in-Ok-None.is c.in-Ok-None.field-0-is c.into.ensures

pub returns-in-Err : goal.returns-in-Err
returns-in-Err c = refused c.loop-read.invariant c.read_record.ensures c.in-Err.is c.into-in-Err.ensures
