-- What reading the inputs of a join leaves in the slices that are lent to it.
use Rattle.std.specs.Prelude.{ℕ, ◌+◌, ◌*◌, ◌/◌, ◌≤◌, min, ◌≡◌, ◌≢◌, List, length, Result, Ok, Err, IfErr}
use Rattle.specification.specs.Table.{Table, port_count, link_count, most_ports, most_links}
use Rattle.specification.specs.Encoding.{encode_table}
use Rattle.specification.specs.Joining.{read_first, read_second, both_tables, joined_table, Join, refusal, joined, join_of}
use Rattle.refusals.specs.Numbers.{number_of}
use Rattle.table.specs.Filled.{Room, Filled, Front}
use Rattle.joins.specs.Refusals.{input_of}
use Rattle.specification.specs.Reading.{read_on, start}
use Rattle.specification.specs.declared.Before.{Before}
use Rattle.table.specs.declared.reading.Counts.{Counts}
use Rattle.table.specs.declared.reading.ReadFault.{ReadFault}
use Rattle.joins.specs.declared.inputs.Input.{Input}
use Rattle.joins.specs.declared.inputs.InputFault.{InputFault}

-- the same, with no input named
abbrev pub unnamed : Result Counts InputFault → Result Counts ReadFault
unnamed (Ok c) = Ok c
unnamed (Err f) = Err (record { fault = f.fault; counts = f.counts })

-- one input behind what was read before it; the input is named where it has a fault
pub record InputRead (s : List ℕ) (input : Input) (b : Before) (ports links ports' links' : List ℕ) (r : Result Counts InputFault) : Type 0 where
  pub filled : Filled b (read_on s b) ports links ports' links' (unnamed r)
  pub named : IfErr r (λ f. f.input ≡ input)

-- a table at the front of slices that have room for what so many more bytes can hold
pub record Held (t : Table) (left : ℕ) (ports links : List ℕ) (p m : ℕ) : Type 0 where
  pub port_count_lem : p ≡ port_count t
  pub link_count_lem : m ≡ link_count t
  pub few_ports : p ≤ most_ports
  pub few_links : m ≤ most_links
  pub port_room : 2 * min most_ports (p + left / 8) ≤ length ports
  pub link_room : 10 * min most_links (m + left / 16) ≤ length links
  pub front : Front t ports links p m

-- the fault of an input is the join's refusal
abbrev pub join_refusal : InputFault → Join
join_refusal f = refusal (number_of f.fault.refusal) f.fault.place (input_of f.input)

pub record JoinFault (first second added : List ℕ) (f : InputFault) : Type 0 where
  pub is : join_of first second added ≡ join_refusal f
  pub some : (join_of first second added).number ≢ 0

-- it comes first, and the counts before it fit the slices
pub record FaultRead (first second added ports links : List ℕ) (f : InputFault) : Type 0 where
  pub refused : JoinFault first second added f
  pub port_room : 2 * f.counts.ports ≤ length ports
  pub link_room : 10 * f.counts.links ≤ length links

-- both tables at the front of the slices, with the room that is left
pub record BothRead (first second ports links ports' links' : List ℕ) (c : Counts) : Type 0 where
  pub first_read : (read_first first).number ≡ 0
  pub second_read : (read_second first second).number ≡ 0
  pub held : (left : ℕ) → Room (length first + length second + left) start (length ports) (length links)
      → Held (both_tables first second) left ports' links' c.ports c.links
  pub port_room : 2 * c.ports ≤ length ports'
  pub link_room : 10 * c.links ≤ length links'

-- both tables, or the first fault, which is that of every join of them
abbrev pub TablesRead : (first second ports links ports' links' : List ℕ) → Result Counts InputFault → Type 0
TablesRead first second ports links ports' links' (Ok c) = BothRead first second ports links ports' links' c
TablesRead first second ports links ports' links' (Err f) = (added : List ℕ) → FaultRead first second added ports' links' f

-- the joined table at the front of the slices
pub record JoinedRead (first second added ports links : List ℕ) (c : Counts) : Type 0 where
  pub is : join_of first second added ≡ joined (encode_table (joined_table first second added))
  pub port_room : 2 * c.ports ≤ length ports
  pub link_room : 10 * c.links ≤ length links
  pub front : Front (joined_table first second added) ports links c.ports c.links

-- all inputs: the joined table, or the first fault
abbrev pub InputsRead : (first second added ports links : List ℕ) → Result Counts InputFault → Type 0
InputsRead first second added ports links (Ok c) = JoinedRead first second added ports links c
InputsRead first second added ports links (Err f) = FaultRead first second added ports links f
