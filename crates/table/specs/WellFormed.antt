-- What it is for a table to be within its limits.
use Rattle.std.specs.Prelude.{ℕ, ◌*◌, ◌≤◌, ◌<◌, ◌≡◌, true, false, eqb}
use Rattle.specification.specs.declared.Port.{Port}
use Rattle.specification.specs.declared.Link.{Link}
use Rattle.specification.specs.Table.{Table, port_count, link_count, port, link, is_buffer, most_part, most_ticks, most_ports, most_events, most_over, most_links}

pub record PartFits (x : ℕ) : Type 0 where
  pub least : 0 < x
  pub most : x ≤ most_part

-- both parts of a rate, or 0 for both
pub record PortFits (p : Port) : Type 0 where
  pub num_most : p.num ≤ most_part
  pub den_most : p.den ≤ most_part
  pub rated : 0 < p.num → 0 < p.den
  pub unrated : p.num ≡ 0 → p.den ≡ 0

-- a link between ports below a number
pub record LinkFits (ports : ℕ) (l : Link) : Type 0 where
  pub from : l.from < ports
  pub to : l.to < ports
  pub num : PartFits l.num
  pub den : PartFits l.den
  pub ticks_forward_lem : l.ticks.0 ≤ most_ticks
  pub ticks_back_lem : l.ticks.1 ≤ most_ticks
  pub over_least : 0 < l.over
  pub over_most : l.over ≤ most_over
  pub events_forward : l.events.0 ≤ most_events * l.over
  pub events_back : l.events.1 ≤ most_events * l.over
  pub kind_least : 2 ≤ l.kind
  pub kind_most : l.kind ≤ 4

-- an amount forward or an amount back is zero, a buffer has no events, and only kind 4 has a denominator other than 1
pub record OneSided (l : Link) : Type 0 where
  pub ticks : l.ticks.0 * l.ticks.1 ≡ 0
  pub events : l.events.0 * l.events.1 ≡ 0
  pub no_events : is_buffer l ≡ true → l.events ≡ (0, 0)
  pub whole_events : eqb l.kind 4 ≡ false → l.over ≡ 1

-- what holds of every table that is read with number 0
pub record WellFormed (t : Table) : Type 0 where
  pub some_port_lem : 0 < port_count t
  pub few_ports : port_count t ≤ most_ports
  pub few_links : link_count t ≤ most_links
  pub ports : (p : ℕ) → p < port_count t → PortFits (port t p)
  pub links : (k : ℕ) → k < link_count t → LinkFits (port_count t) (link t k)
