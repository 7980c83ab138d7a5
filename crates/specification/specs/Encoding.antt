-- A table as bytes: its ports, then its links, each as the record that document 01 gives it.
use Rattle.std.specs.Prelude.{ℕ, ◌+◌, ◌*◌, ◌-◌, cond, eqb}
use mathlib.Core.List.{List, ◌++◌, flat_map}
use Rattle.specification.specs.Bytes.{bytes, encode}
use Rattle.specification.specs.Table.{most_ports, most_links, Table, is_buffer}
use Rattle.specification.specs.declared.Port.{Port}
use Rattle.specification.specs.declared.Link.{Link}

-- two's complement in four bytes, of an amount forward and an amount back, one of them zero
unfoldable pub signed_word : (forward back : ℕ) → ℕ
signed_word forward back = cond (eqb back 0) forward (4294967296 - back)

-- kind 1, length 6
unfoldable pub encode_port : Port → List ℕ
encode_port p = encode 1 (bytes 2 p.num ++ bytes 2 p.den)

-- what a connection and a buffer have in common
unfoldable pub link_fields : Link → List ℕ
link_fields l = bytes 2 l.from ++ bytes 2 l.to ++ bytes 2 l.num ++ bytes 2 l.den ++ bytes 4 (signed_word l.ticks.0 l.ticks.1)

-- what the two kinds of connection have in common
unfoldable pub connection_fields : Link → List ℕ
connection_fields l = link_fields l ++ bytes 4 (signed_word l.events.0 l.events.1)

-- a buffer has kind 3, length 14; a connection kind 2, length 18, or kind 4, length 22, with the denominator of its δ
unfoldable pub encode_link : Link → List ℕ
encode_link l =
    cond (is_buffer l) (encode 3 (link_fields l))
    (cond (eqb l.kind 4) (encode 4 (connection_fields l ++ bytes 4 l.over))
    (encode 2 (connection_fields l)))

abbrev pub encode_ports : List Port → List ℕ
encode_ports ps = flat_map encode_port ps

abbrev pub encode_links : List Link → List ℕ
encode_links ls = flat_map encode_link ls

unfoldable pub encode_table : Table → List ℕ
encode_table t = encode_ports t.ports ++ encode_links t.links

-- the most bytes of a table: ports of 8, connections of 24
abbrev pub most_table_bytes : ℕ
most_table_bytes = 8 * most_ports + 24 * most_links
