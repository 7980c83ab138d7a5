-- The table that bytes hold: its records are read from the front, each tried for 2 to 11 in order; the first faulty one decides.
use Rattle.std.specs.Prelude.{ℕ, zero, suc, ◌+◌, ◌*◌, ◌-◌, ◌<◌, ◌≡◌, Bool, true, false, not, ◌&&◌, ◌||◌, cond, List, [], ◌∷◌, length, take, ltb, leb, eqb}
use Rattle.specification.specs.Bytes.{number_at}
use Rattle.specification.specs.Table.{most_ports, most_links, most_part, most_ticks, most_events, most_over, Table, port_count, link_count}
use Rattle.specification.specs.declared.Ticks.{Ticks}
use Rattle.specification.specs.declared.Events.{Events}
use Rattle.specification.specs.declared.Port.{Port}
use Rattle.specification.specs.declared.Link.{Link}
use Rattle.specification.specs.declared.Before.{Before}
use Rattle.specification.specs.declared.Read.{Read}
use Rattle.specification.specs.declared.Read.TheVariants.{PortRecord, LinkRecord, Refused, End}

-- ---- one record
-- two's complement in four bytes, as an amount forward and an amount back, one of them zero
unfoldable pub forward : ℕ → ℕ
forward v = cond (ltb v 2147483648) v 0

unfoldable pub back : ℕ → ℕ
back v = cond (ltb v 2147483648) 0 (4294967296 - v)

-- the number of document 01 that reading a record gives
abbrev pub number_of : Read → ℕ
number_of (PortRecord p next) = 0
number_of (LinkRecord l next) = 0
number_of (Refused n place) = n
number_of End = 0

-- the byte at which a faulty record begins, else 0
abbrev pub place_of : Read → ℕ
place_of (PortRecord p next) = 0
place_of (LinkRecord l next) = 0
place_of (Refused n place) = place
place_of End = 0

-- number n, with the place where the record begins, where the test finds the fault, else what follows
abbrev pub refuse : (at n : ℕ) → Bool → Read → Read
refuse at n true r = Refused n at
refuse at n false r = r

-- a single byte is left, or the length is below 2 or above what is left
unfoldable pub length_faulty : List ℕ → ℕ → Bool
length_faulty s at = ltb (length s - at) 2 || (ltb (number_at s at 2) 2 || ltb (length s - at - 2) (number_at s at 2))

-- a part is 0 or above 1,000
unfoldable pub part_faulty : ℕ → Bool
part_faulty x = eqb x 0 || ltb most_part x

unfoldable pub parts_faulty : List ℕ → ℕ → Bool
parts_faulty s at = part_faulty (number_at s at 2) || part_faulty (number_at s (at + 2) 2)

-- a rate: 0 goes with 0 alone, which means no rate; else it has the parts of a ratio
unfoldable pub rate_faulty : List ℕ → ℕ → Bool
rate_faulty s at = cond (eqb (number_at s at 2) 0) (not (eqb (number_at s (at + 2) 2) 0)) (parts_faulty s at)

-- from or to names no port
unfoldable pub ends_faulty : List ℕ → ℕ → ℕ → Bool
ends_faulty s at named = leb named (number_at s at 2) || leb named (number_at s (at + 2) 2)

unfoldable pub ticks_at : List ℕ → ℕ → Ticks
ticks_at s at = (forward (number_at s at 4), back (number_at s at 4))

unfoldable pub events_at : List ℕ → ℕ → Events
events_at s at = (forward (number_at s at 4), back (number_at s at 4))

-- an amount forward or back is outside its range
unfoldable pub amount_faulty : (most forward back : ℕ) → Bool
amount_faulty most forward back = ltb most forward || ltb most back

-- the denominator of δ is 0 or above 10,000, or δ is outside its range
unfoldable pub events_faulty : Events → (over : ℕ) → Bool
events_faulty events over = eqb over 0 || (ltb most_over over || amount_faulty (most_events * over) events.0 events.1)

-- ε or δ is outside its range; a buffer's events are zero
unfoldable pub delays_faulty : Ticks → Events → (over : ℕ) → Bool
delays_faulty ticks events over = amount_faulty most_ticks ticks.0 ticks.1 || events_faulty events over

-- the fields of a port, from the place of the first
unfoldable pub port_of : List ℕ → ℕ → Port
port_of s at = record { num = number_at s at 2; den = number_at s (at + 2) 2 }

-- the fields of a connection or buffer, from the place of the first
unfoldable pub link_of : List ℕ → ℕ → Ticks → Events → (over kind : ℕ) → Link
link_of s at ticks events over kind = record {
  from = number_at s at 2;
  to = number_at s (at + 2) 2;
  num = number_at s (at + 4) 2;
  den = number_at s (at + 6) 2;
  ticks = ticks;
  events = events;
  over = over;
  kind = kind;
}

-- kind 1, port, length 6
unfoldable pub port_at : List ℕ → ℕ → ℕ → Before → Read
port_at s at n before =
    refuse at 4 (not (eqb n 6))
    (refuse at 5 (not before.port_may_come)
    (refuse at 6 (leb most_ports before.ports)
    (refuse at 8 (rate_faulty s (at + 4))
    (PortRecord (port_of s (at + 4)) (at + 8)))))

-- kinds 2, 3 and 4 behind the test of their length
unfoldable pub link_at : List ℕ → ℕ → Before → Events → (over kind next : ℕ) → Read
link_at s at before events over kind next =
    refuse at 7 (leb most_links before.links)
    (refuse at 9 (ends_faulty s (at + 4) before.named)
    (refuse at 10 (parts_faulty s (at + 8))
    (refuse at 11 (delays_faulty (ticks_at s (at + 12)) events over)
    (LinkRecord (link_of s (at + 4) (ticks_at s (at + 12)) events over kind) next))))

-- kind 2, connection, length 18
unfoldable pub connection_at : List ℕ → ℕ → ℕ → Before → Read
connection_at s at n before = refuse at 4 (not (eqb n 18)) (link_at s at before (events_at s (at + 16)) 1 2 (at + 20))

-- kind 3, buffer, length 14
unfoldable pub buffer_at : List ℕ → ℕ → ℕ → Before → Read
buffer_at s at n before = refuse at 4 (not (eqb n 14)) (link_at s at before (0, 0) 1 3 (at + 16))

-- kind 4, connection whose δ is a fraction, length 22: as kind 2, and the denominator of δ behind
unfoldable pub fraction_at : List ℕ → ℕ → ℕ → Before → Read
fraction_at s at n before = refuse at 4 (not (eqb n 22)) (link_at s at before (events_at s (at + 16)) (number_at s (at + 20) 4) 4 (at + 24))

unfoldable pub kind_at : List ℕ → ℕ → ℕ → ℕ → Before → Read
kind_at s at n kind before =
    cond (eqb kind 1) (port_at s at n before)
    (cond (eqb kind 2) (connection_at s at n before)
    (cond (eqb kind 3) (buffer_at s at n before)
    (cond (eqb kind 4) (fraction_at s at n before)
    (Refused 3 at))))

-- none left ends the table
unfoldable pub record_at : List ℕ → ℕ → Before → Read
record_at s at before =
    cond (leb (length s) at) End
    (refuse at 2 (length_faulty s at)
    (kind_at s at (number_at s at 2) (number_at s (at + 2) 2) before))

-- ---- all records
-- the number of document 01, 0 where there is no fault; the place of the fault, 0 where there is none; and what was read before it
pub record Reading : Type 0 where
  pub number : ℕ
  pub place : ℕ
  pub table : Table

-- what stands before the record behind a port, and behind a link: from and to name one port more; no port may come behind a link
abbrev pub with_port : Before → Before
with_port b = record { ports = b.ports + 1; links = b.links; named = b.named + 1; port_may_come = b.port_may_come }

abbrev pub with_link : Before → Before
with_link b = record { ports = b.ports; links = b.links + 1; named = b.named; port_may_come = false }

abbrev pub nothing : (number place : ℕ) → Reading
nothing number place = record { number = number; place = place; table = record { ports = []; links = [] } }

abbrev pub add_port : Port → Reading → Reading
add_port p r = record { number = r.number; place = r.place; table = record { ports = p ∷ r.table.ports; links = r.table.links } }

abbrev pub add_link : Link → Reading → Reading
add_link l r = record { number = r.number; place = r.place; table = record { ports = r.table.ports; links = l ∷ r.table.links } }

-- what a record gives, where `rest` reads on from a place
abbrev pub after : (ℕ → Before → Reading) → Before → Read → Reading
after rest b (PortRecord p next) = add_port p (rest next (with_port b))
after rest b (LinkRecord l next) = add_link l (rest next (with_link b))
after rest b (Refused number place) = nothing (number_of (Refused number place)) (place_of (Refused number place))
after rest b End = nothing (number_of End) (place_of End)

-- the records from a place on. The first number bounds the records read; by `bound_decides_nothing` it decides nothing
unfoldable pub read_from : ℕ → List ℕ → ℕ → Before → Reading
read_from zero s at b = nothing 2 at
read_from (suc n) s at b = after (read_from n s) b (record_at s at b)

-- the records of an input of its own, behind what was read before it; every record has a byte, so one more than the bytes are enough
unfoldable pub read_on : List ℕ → Before → Reading
read_on s b = read_from (length s + 1) s 0 b

-- what stands before the record behind a whole table
abbrev pub with_table : Before → Table → Before
with_table b t = record {
  ports = b.ports + port_count t;
  links = b.links + link_count t;
  named = b.named + port_count t;
  port_may_come = b.port_may_come && eqb (link_count t) 0;
}

-- the place of a fault: the records before it are read without fault, and the record that begins there, tried behind them, has the number
pub record FaultPlace (s : List ℕ) (b : Before) (number place : ℕ) : Type 0 where
  pub within : place < length s
  pub no_fault : (read_on (take place s) b).number ≡ 0
  pub faulty : record_at s place (with_table b (read_on (take place s) b).table) ≡ Refused number place

-- nothing was read before
abbrev pub start : Before
start = record { ports = 0; links = 0; named = 0; port_may_come = true }

-- 12 where there is no fault and no port; like 0 it has place 0
abbrev pub some_port : Reading → Reading
some_port r = record { number = cond (eqb r.number 0 && eqb (length r.table.ports) 0) 12 r.number; place = r.place; table = r.table }

unfoldable pub read_table : List ℕ → Reading
read_table s = some_port (read_on s start)
