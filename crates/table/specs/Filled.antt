-- What reading leaves in the slices that are lent to it.
use Rattle.std.specs.Prelude.{ℕ, ◌+◌, ◌-◌, ◌*◌, ◌/◌, ◌≤◌, min, ◌≡◌, ◌≢◌, List, map, length, take, Result, Ok, Err}
use Rattle.std.proofs.lemmas.List.Edits.{sets}
use Rattle.specification.specs.Table.{Table, most_ports, most_links}
use Rattle.table.specs.Slices.{port_numbers, link_numbers, table_of}
use Rattle.specification.specs.Reading.{Reading}
use Rattle.specification.specs.Joining.{moved}
use Rattle.specification.specs.declared.Before.{Before}
use Rattle.refusals.specs.Numbers.{number_of}
use Rattle.refusals.specs.declared.Fault.{Fault}
use Rattle.table.specs.declared.reading.Counts.{Counts}
use Rattle.table.specs.declared.reading.ReadFault.{ReadFault}

-- the slices hold what stands before the input, and room for what so many bytes can hold: a port has 8 bytes, a link 16 or more
pub record Room (bytes : ℕ) (b : Before) (ports links : ℕ) : Type 0 where
  pub few_ports : b.ports ≤ most_ports
  pub few_links : b.links ≤ most_links
  pub own : b.named ≤ b.ports
  pub port_room : 2 * min most_ports (b.ports + bytes / 8) ≤ ports
  pub link_room : 10 * min most_links (b.links + bytes / 16) ≤ links

-- where there is no fault, number and place are 0
pub record Faultless (r : Reading) : Type 0 where
  pub number : r.number ≡ 0
  pub place : r.place ≡ 0

-- and where there is one, they are its own
pub record FaultOf (r : Reading) (f : Fault) : Type 0 where
  pub number : r.number ≡ number_of f.refusal
  pub place : r.place ≡ f.place
  pub some : r.number ≢ 0

abbrev pub Returned : Reading → Result Counts ReadFault → Type 0
Returned r (Ok c) = Faultless r
Returned r (Err f) = FaultOf r f.fault

-- how many ports and links the slices hold, with a fault or without
abbrev pub counts_of : Result Counts ReadFault → Counts
counts_of (Ok c) = c
counts_of (Err f) = f.counts

abbrev pub counts_before : Before → Counts
counts_before b = record { ports = b.ports; links = b.links }

-- the numbers of what was read, up to the fault if there is one, stand behind what stood before, its links with their ends moved up; the rest
-- of the slices is as it was
pub record Filled (b : Before) (r : Reading) (ports links ports' links' : List ℕ) (c : Result Counts ReadFault) : Type 0 where
  pub returned : Returned r c
  pub port_count_lem : (counts_of c).ports ≡ b.ports + length r.table.ports
  pub link_count_lem : (counts_of c).links ≡ b.links + length r.table.links
  pub port_room : 2 * (counts_of c).ports ≤ length ports
  pub link_room : 10 * (counts_of c).links ≤ length links
  pub ports_are : ports' ≡ sets ports (2 * b.ports) (port_numbers r.table.ports)
  pub links_are : links' ≡ sets links (10 * b.links) (link_numbers (map (moved (b.ports - b.named)) r.table.links))

-- the table that so many ports and links at the front of the slices are
abbrev pub front_of : Counts → (ports links : List ℕ) → Table
front_of c ports links = table_of (take (2 * c.ports) ports) (take (10 * c.links) links)

-- so many ports and links at the front of the slices are the table's
pub record Front (t : Table) (ports links : List ℕ) (p m : ℕ) : Type 0 where
  pub ports_are : take (2 * p) ports ≡ port_numbers t.ports
  pub links_are : take (10 * m) links ≡ link_numbers t.links
