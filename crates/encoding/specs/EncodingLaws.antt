-- What is written of a link by its kind, and the lengths of ports and links that are written as bytes.
use Rattle.std.specs.Prelude.{ℕ, ◌+◌, ◌*◌, ◌≤◌, ◌≡◌, refl, ◌≢◌, Bool, true, false, cond, eqb, length}
use mathlib.Core.List.{List, [], ◌∷◌, ◌++◌, flat_map}
use Rattle.std.proofs.Common.{arith, length-append}
use borrow.Author.Tests.{eq-eqb, ne_eqb}
use Rattle.specification.specs.Bytes.{bytes, encode}
use Rattle.specification.specs.Encoding.{encode_port, link_fields, connection_fields, encode_link, encode_ports, encode_links, encode_table}
use Rattle.specification.specs.Table.{Table, is_buffer}
use Rattle.specification.specs.declared.Port.{Port}
use Rattle.specification.specs.declared.Link.{Link}

pub port_length : (p : Port) → length (encode_port p) ≡ 8
unfolding encode_port encode bytes
port_length p = refl

-- ---- the record of a link, by its kind
abbrev pub buffer_bytes : Link → List ℕ
buffer_bytes l = encode 3 (link_fields l)

abbrev pub connection_bytes : Link → List ℕ
connection_bytes l = encode 2 (connection_fields l)

abbrev pub fraction_bytes : Link → List ℕ
fraction_bytes l = encode 4 (connection_fields l ++ bytes 4 l.over)

module _ (l : Link) where
  pub buffer_is : l.kind ≡ 3 → encode_link l ≡ buffer_bytes l
  unfolding encode_link
  buffer_is e = rw (eq-eqb l.kind 3 e)

  pub fraction_is : l.kind ≡ 4 → encode_link l ≡ fraction_bytes l
  unfolding encode_link
  fraction_is e = rw (ne_eqb l.kind 3 (λ f. omega (arith, e, f)), eq-eqb l.kind 4 e)

  pub connection_is : l.kind ≢ 3 → l.kind ≢ 4 → encode_link l ≡ connection_bytes l
  unfolding encode_link
  connection_is d e = rw (ne_eqb l.kind 3 d, ne_eqb l.kind 4 e)

-- how many bytes it has
abbrev pub link_size : Link → ℕ
link_size l = cond (is_buffer l) 16 (cond (eqb l.kind 4) 24 20)

pub link_length : (l : Link) → length (encode_link l) ≡ link_size l
unfolding encode_link connection_fields link_fields encode bytes
link_length l = decided (is_buffer l) (eqb l.kind 4)
  where
    decided : (x y : Bool) → length (cond x (buffer_bytes l) (cond y (fraction_bytes l) (connection_bytes l))) ≡ cond x 16 (cond y 24 20)
    decided true y = refl
    decided false true = refl
    decided false false = refl

pub ports_length : (ps : List Port) → length (encode_ports ps) ≡ 8 * length ps
unfolding flat_map
ports_length [] = refl
ports_length (p ∷ ps) = omega (arith, length-append (encode_port p) (encode_ports ps), port_length p, ports_length ps)

link_most : (l : Link) → length (encode_link l) ≤ 24
link_most l = decided (is_buffer l) (eqb l.kind 4) (link_length l)
  where
    decided : (x y : Bool) → length (encode_link l) ≡ cond x 16 (cond y 24 20) → length (encode_link l) ≤ 24
    decided true y e = omega (arith, e)
    decided false true e = omega (arith, e)
    decided false false e = omega (arith, e)

pub links_most : (ls : List Link) → length (encode_links ls) ≤ 24 * length ls
unfolding flat_map
links_most [] = omega arith
links_most (l ∷ ls) = omega (arith, length-append (encode_link l) (encode_links ls), link_most l, links_most ls)

pub table_length : (t : Table) → length (encode_table t) ≡ length (encode_ports t.ports) + length (encode_links t.links)
unfolding encode_table
table_length t = length-append (encode_ports t.ports) (encode_links t.links)
