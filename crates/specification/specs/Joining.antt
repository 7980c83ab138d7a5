-- The join of two tables and added connections and buffers, over byte strings, and what the code promises of it.
use Rattle.std.specs.Prelude.{ℕ, ◌+◌, ◌≤◌, ◌<◌, ◌≡◌, ◌≢◌, true, false, cond, List, [], ◌++◌, map, length, take, drop, ltb, eqb}
use Rattle.specification.specs.Bytes.{Written, NothingWritten}
use Rattle.specification.specs.Table.{Table, port_count, link_count}
use Rattle.specification.specs.Reading.{Reading, read_on, FaultPlace, start}
use Rattle.specification.specs.Encoding.{encode_table, most_table_bytes}
use Rattle.specification.specs.declared.Link.{Link}
use Rattle.specification.specs.declared.Before.{Before}
use Rattle.specification.specs.declared.JoinOutcome.{JoinOutcome}

-- ---- one table behind another
-- the link between the ports so many numbers higher
abbrev pub moved : ℕ → Link → Link
moved by l = record {
  from = by + l.from;
  to = by + l.to;
  num = l.num;
  den = l.den;
  ticks = l.ticks;
  events = l.events;
  over = l.over;
  kind = l.kind;
}

-- a table with the ports and links of another behind its own, the ends of these so many numbers higher
abbrev pub behind : Table → ℕ → Table → Table
behind t by u = record { ports = t.ports ++ u.ports; links = t.links ++ map (moved by) u.links }

-- ---- the three inputs, read in turn
-- before the second table: 6 and 7 count through; 5 and 9 start anew
abbrev pub before_second : Table → Before
before_second t = record { ports = port_count t; links = link_count t; named = 0; port_may_come = true }

-- before the added records: a port is 5, and the ends have the numbers of the result
abbrev pub before_added : Table → Before
before_added t = record { ports = port_count t; links = link_count t; named = port_count t; port_may_come = false }

abbrev pub read_first : List ℕ → Reading
read_first first = read_on first start

abbrev pub read_second : (first second : List ℕ) → Reading
read_second first second = read_on second (before_second (read_first first).table)

-- the second table's ports behind the first's
unfoldable pub both_tables : (first second : List ℕ) → Table
both_tables first second = behind (read_first first).table (port_count (read_first first).table) (read_second first second).table

abbrev pub read_added : (first second added : List ℕ) → Reading
read_added first second added = read_on added (before_added (both_tables first second))

-- ports of the first, ports of the second, links of the first, of the second, and the added ones
unfoldable pub joined_table : (first second added : List ℕ) → Table
joined_table first second added = behind (both_tables first second) 0 (read_added first second added).table

-- ---- the join
-- the number and the place, within its own input; the input, 1 the first, 2 the second, 3 the added records, 0 where the number concerns
-- none; and the joined table as bytes, none where it is refused
pub record Join : Type 0 where
  pub number : ℕ
  pub place : ℕ
  pub input : ℕ
  pub table : List ℕ

abbrev pub refusal : (number place input : ℕ) → Join
refusal number place input = record { number = number; place = place; input = input; table = [] }

abbrev pub joined : (table : List ℕ) → Join
joined table = record { number = 0; place = 0; input = 0; table = table }

-- the fault of an input, where it has one, else what follows
abbrev pub fault_or : (input : ℕ) → Reading → Join → Join
fault_or input r next = cond (eqb r.number 0) next (refusal r.number r.place input)

-- 2 to 11 in each input; 12 to 15 and 17 are not tried
unfoldable pub join_of : (first second added : List ℕ) → Join
join_of first second added =
    fault_or 1 (read_first first)
    (fault_or 2 (read_second first second)
    (fault_or 3 (read_added first second added)
    (joined (encode_table (joined_table first second added)))))

-- 16 last: the buffer is shorter than the joined table; a buffer of exactly its length is long enough
unfoldable pub fitted : Join → (room : ℕ) → Join
fitted j room = cond (ltb room (length j.table)) (refusal 16 0 0) j

abbrev pub join_into : (first second added : List ℕ) (room : ℕ) → Join
join_into first second added room = fitted (join_of first second added) room

-- what the code promises of a join: all that it returns, and every byte of the buffer. A refusal has no bytes, so the buffer is as it was
pub record JoinReturned (j : Join) (before after : List ℕ) (r : JoinOutcome) : Type 0 where
  pub number_is : r.number ≡ j.number
  pub place_is : r.place ≡ j.place
  pub input_is : r.input ≡ j.input
  pub table_is : Written j.table before after r.written

-- ---- what follows for a caller
-- the numbers of a faulty record
pub record RecordFault (n : ℕ) : Type 0 where
  pub least : 2 ≤ n
  pub most : n ≤ 11

module _ (first second added : List ℕ) where
  -- the first fault of the first faulty input: its number, its place within that input, and the input
  pub data InputFault : (number place input : ℕ) → Type 0 where
    first_fault : {n p : ℕ} → RecordFault n → FaultPlace first start n p → InputFault n p 1
    second_fault : {n p : ℕ} → (read_first first).number ≡ 0 → RecordFault n → FaultPlace second (before_second (read_first first).table) n p
        → InputFault n p 2
    added_fault : {n p : ℕ} → (read_first first).number ≡ 0 → (read_second first second).number ≡ 0 → RecordFault n
        → FaultPlace added (before_added (both_tables first second)) n p
        → InputFault n p 3

  -- no input has a fault
  pub record NoFault : Type 0 where
    pub first_read : (read_first first).number ≡ 0
    pub second_read : (read_second first second).number ≡ 0
    pub added_read : (read_added first second added).number ≡ 0

  -- the number, place and input of a join into a buffer of so many bytes: the first fault decides, then the room
  pub data JoinNumbers (room : ℕ) : (number place input : ℕ) → Type 0 where
    faulty : {n p i : ℕ} → InputFault n p i → JoinNumbers room n p i
    short : NoFault → room < length (encode_table (joined_table first second added)) → JoinNumbers room 16 0 0
    enough : NoFault → length (encode_table (joined_table first second added)) ≤ room → JoinNumbers room 0 0 0

pub record JoinDemanded (first second added before after : List ℕ) (r : JoinOutcome) : Type 0 where
  pub numbers : JoinNumbers first second added (length before) r.number r.place r.input
  -- there is room for every join in the most bytes of a table
  pub room : most_table_bytes ≤ length before → r.number ≢ 16
  pub refused : r.number ≢ 0 → NothingWritten before after r.written
  -- what is written is read back as the joined table
  pub read_back : r.number ≡ 0 → read_on (take r.written after) start ≡ record { number = 0; place = 0; table = joined_table first second added }
  -- other bytes than the written ones are unchanged
  pub same_length : length after ≡ length before
  pub rest : drop r.written after ≡ drop r.written before
