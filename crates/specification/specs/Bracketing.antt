-- Three tables joined in both ways of bracketing, and what the two results have in common.
use Rattle.std.specs.Prelude.{ℕ, ◌+◌, ◌*◌, ◌-◌, ◌≤◌, ◌≡◌, Bool, not, ◌&&◌, take, ltb, leb}
use mathlib.Core.List.{List, ◌++◌, map, Permᴰ}
use Rattle.numbers.specs.Lists.{keep}
use Rattle.specification.specs.Bytes.{port_bytes}
use Rattle.specification.specs.Table.{Table, most_ports, most_links, port_count, link_count, IsPort}
use Rattle.specification.specs.Reading.{read_on, start}
use Rattle.specification.specs.Encoding.{encode_links}
use Rattle.specification.specs.Joining.{behind, before_added, Join, join_of}
use Rattle.specification.specs.Answers.{Timing, Answer, consistent, number}
use Rattle.specification.specs.declared.Link.{Link}
use Rattle.specification.specs.declared.Outcome.{Outcome}

-- ---- lots of added records
-- both ends are below port n
unfoldable pub ends_below : ℕ → Link → Bool
ends_below n l = ltb l.from n && ltb l.to n

-- both ends are port n or above
unfoldable pub ends_from : ℕ → Link → Bool
ends_from n l = leb n l.from && leb n l.to

-- the link between the ports so many numbers lower
abbrev pub lowered : ℕ → Link → Link
lowered by l = record {
  from = l.from - by;
  to = l.to - by;
  num = l.num;
  den = l.den;
  ticks = l.ticks;
  events = l.events;
  over = l.over;
  kind = l.kind;
}

-- ---- three tables and one lot of added records, numbered as in the whole
module _ (a b c : List ℕ) where
  abbrev pub ports_of_a : ℕ
  ports_of_a = port_count (read_on a start).table

  abbrev pub ports_of_ab : ℕ
  ports_of_ab = ports_of_a + port_count (read_on b start).table

  abbrev pub three_tables : Table
  three_tables = behind (behind (read_on a start).table ports_of_a (read_on b start).table) ports_of_ab (read_on c start).table

  module _ (d : List ℕ) where
    -- none faulty by 2 to 11, the whole within limits
    pub record Three : Type 0 where
      pub first : (read_on a start).number ≡ 0
      pub second : (read_on b start).number ≡ 0
      pub third : (read_on c start).number ≡ 0
      pub few_ports : port_count three_tables ≤ most_ports
      pub few_links : link_count three_tables ≤ most_links
      pub added : (read_on d (before_added three_tables)).number ≡ 0

    abbrev pub added_links : List Link
    added_links = (read_on d (before_added three_tables)).table.links

    -- all ports, all links of the tables, and the added ones
    abbrev pub whole : Table
    whole = record { ports = three_tables.ports; links = three_tables.links ++ added_links }

    -- (a b) c: an added record is placed at the inner join where both its ends are ports of a or b, else at the outer
    unfoldable pub join_left : Join
    join_left = join_of (join_of a b (encode_links (keep (ends_below ports_of_ab) added_links))).table c
        (encode_links (keep (λ l. not (ends_below ports_of_ab l)) added_links))

    -- a (b c): at the inner join where both its ends are ports of b or c, numbered there from b's first port, else at the outer
    unfoldable pub join_right : Join
    join_right = join_of a (join_of b c (encode_links (map (lowered ports_of_a) (keep (ends_from ports_of_a) added_links)))).table
        (encode_links (keep (λ l. not (ends_from ports_of_a l)) added_links))

-- ---- the same up to order
-- both are tables without a fault of 2 to 11, with the same ports, and the same links up to order: those of the whole.
-- `List.Permᴰ` is the library's permutation
pub record SameTables (t : Table) (x y : Join) : Type 0 where
  pub left_number : x.number ≡ 0
  pub right_number : y.number ≡ 0
  pub left_read : (read_on x.table start).number ≡ 0
  pub right_read : (read_on y.table start).number ≡ 0
  pub ports : (read_on x.table start).table.ports ≡ (read_on y.table start).table.ports
  pub links : Permᴰ (read_on x.table start).table.links (read_on y.table start).table.links
  pub all_ports : (read_on x.table start).table.ports ≡ t.ports
  pub all_links : Permᴰ (read_on x.table start).table.links t.links

-- what is returned of a port is the same: hence its period, weight times a/b, and its start
pub record SamePort (r r' : Timing) (p : ℕ) : Type 0 where
  pub component : r.component p ≡ r'.component p
  pub weight : r.weight p ≡ r'.weight p
  pub a : r.a p ≡ r'.a p
  pub b : r.b p ≡ r'.b p
  pub start : r.start p ≡ r'.start p

-- two answers have the same number and, where they are consistent, the same of each port of a table
pub record SameUpToOrder (t : Table) (x y : Answer) : Type 0 where
  pub same_number : number x ≡ number y
  pub same_ports : (r r' : Timing) → x ≡ consistent r → y ≡ consistent r' → (p : ℕ) → IsPort t p → SamePort r r' p

-- two calls of the analysis, of a table with so many ports: the same number and place, and where it is 0 the same records of the ports, which stand
-- at the front of the answer buffers
pub record SameCalls (ports : ℕ) (after after' : List ℕ) (r r' : Outcome) : Type 0 where
  pub number : r.number ≡ r'.number
  pub place : r.place ≡ r'.place
  pub port_records_lem : r.number ≡ 0 → take (port_bytes * ports) after ≡ take (port_bytes * ports) after'
