-- A table that was written as bytes is read back.
use Rattle.std.specs.Prelude.{ℕ, zero, suc, ◌+◌, ◌≤◌, ◌<◌, ◌≡◌, true, length}
use Rattle.std.proofs.Common.{sym, ap, ◌∙◌, arith, length-append, le-leb, eq-eqb, ne_eqb}
use mathlib.Core.List.{List, [], ◌∷◌, ◌++◌, append_assoc, append-nil, flat_map}
use Rattle.specification.specs.Encoding.{encode_port, encode_link, encode_ports, encode_links, encode_table}
use Rattle.specification.specs.Table.{Table, port_count, link_count, port, link, most_ports, most_links}
use Rattle.specification.specs.Reading.{record_at, Reading, with_port, with_link, read_from, read_on, start, some_port, read_table}
use Rattle.specification.specs.declared.Port.{Port}
use Rattle.specification.specs.declared.Link.{Link}
use Rattle.specification.specs.declared.Before.{Before}
use Rattle.table.specs.WellFormed.{PortFits, LinkFits, OneSided, WellFormed}
use Rattle.table.specs.ReadingLaws.{fits_more, bound_decides_nothing}
use Rattle.encoding.specs.EncodingLaws.{port_length, link_size, link_length}
use Rattle.encoding.specs.RecordBack.{port_back, link_back}

-- a table that may stand behind what was read before it
pub record Writable (b : Before) (t : Table) : Type 0 where
  pub few_ports : b.ports + port_count t ≤ most_ports
  pub few_links : b.links + link_count t ≤ most_links
  pub few_named : b.named + port_count t ≤ most_ports
  pub may_come : 0 < port_count t → b.port_may_come ≡ true
  pub ports : (p : ℕ) → p < port_count t → PortFits (port t p)
  pub links : (k : ℕ) → k < link_count t → LinkFits (b.named + port_count t) (link t k)
  pub sided : (k : ℕ) → k < link_count t → OneSided (link t k)

-- what is left may stand behind the first port, and behind the first link where there is no port
behind_port : (b : Before) (p : Port) (ps : List Port) (ls : List Link) → Writable b (record { ports = p ∷ ps; links = ls })
    → Writable (with_port b) (record { ports = ps; links = ls })
behind_port b p ps ls w = record {
  few_ports = omega (arith, w.few_ports);
  few_links = w.few_links;
  few_named = omega (arith, w.few_named);
  may_come = λ _. w.may_come (omega arith);
  ports = λ q h. w.ports (suc q) (omega arith);
  links = λ k h. fits_more (b.named + 1 + length ps) (w.links k h) (omega arith);
  sided = w.sided;
}

behind_link : (b : Before) (l : Link) (ls : List Link) → Writable b (record { ports = []; links = l ∷ ls })
    → Writable (with_link b) (record { ports = []; links = ls })
behind_link b l ls w = record {
  few_ports = w.few_ports;
  few_links = omega (arith, w.few_links);
  few_named = w.few_named;
  may_come = λ h. absurd (omega arith);
  ports = w.ports;
  links = λ k h. w.links (suc k) (omega arith);
  sided = λ k h. w.sided (suc k) (omega arith);
}

-- the records behind the bytes xs; any bound above their number is enough
links_back : (ls : List Link) (xs : List ℕ) (n : ℕ) (b : Before) → Writable b (record { ports = []; links = ls }) → length ls < n
    → read_from n (xs ++ encode_links ls) (length xs) b ≡ record { number = 0; place = 0; table = record { ports = []; links = ls } }
unfolding flat_map read_from record_at
links_back ls xs zero b w enough = absurd (omega arith)
links_back [] xs (suc n) b w enough = rw (append-nil xs, le-leb (length xs) (length xs) (omega arith))
links_back (l ∷ ls) xs (suc n) b w enough =
    let front = xs ++ encode_link l in
    let fits = fits_more b.named (w.links 0 (omega arith)) (omega arith) in
    let read = link_back xs (encode_links ls) l b fits (omega (arith, w.few_named)) (w.sided 0 (omega arith)) (omega (arith, w.few_links)) in
    let at : length xs + link_size l ≡ length front = omega (arith, length-append xs (encode_link l), link_length l) in
    rw (read, at, ← append_assoc xs (encode_link l) (encode_links ls), links_back ls front n (with_link b) (behind_link b l ls w) (omega arith))

table_back : (ps : List Port) (ls : List Link) (xs : List ℕ) (n : ℕ) (b : Before) → Writable b (record { ports = ps; links = ls })
    → length ps + length ls < n
    → read_from n (xs ++ (encode_ports ps ++ encode_links ls)) (length xs) b ≡ record { number = 0; place = 0; table = record { ports = ps; links = ls } }
unfolding flat_map read_from
table_back [] ls xs n b w enough = links_back ls xs n b w (omega arith)
table_back (p ∷ ps) ls xs zero b w enough = absurd (omega arith)
table_back (p ∷ ps) ls xs (suc n) b w enough =
    let front = xs ++ encode_port p in
    let rest = encode_ports ps ++ encode_links ls in
    let read = port_back xs rest p b (w.ports 0 (omega arith)) (omega (arith, w.few_ports)) (w.may_come (omega arith)) in
    let at : length xs + 8 ≡ length front = omega (arith, length-append xs (encode_port p), port_length p) in
    rw (append_assoc (encode_port p) (encode_ports ps) (encode_links ls), read, at, ← append_assoc xs (encode_port p) rest)
    (rw (table_back ps ls front n (with_port b) (behind_port b p ps ls w) (omega arith)))

pub read_back : (b : Before) (t : Table) → Writable b t → read_on (encode_table t) b ≡ record { number = 0; place = 0; table = t }
unfolding encode_table
read_back b t w =
    let bound = length (encode_table t) + port_count t + link_count t + 1 in
    sym (bound_decides_nothing (encode_table t) bound b (omega arith)) ∙ table_back t.ports t.links [] bound b w (omega arith)

-- ---- a table of its own: what the analysis reads of its bytes
module _ {t : Table} (w : Writable start t) where
  table_read : read_table (encode_table t) ≡ some_port (record { number = 0; place = 0; table = t })
  unfolding read_table
  table_read = rw (read_back start t w)

  pub table_read_back : (read_table (encode_table t)).table ≡ t
  table_read_back = ap (λ (r : Reading). r.table) table_read

  pub no_fault_read : (read_table (encode_table t)).place ≡ 0
  no_fault_read = ap (λ (r : Reading). r.place) table_read

  pub no_port_read : port_count t ≡ 0 → (read_table (encode_table t)).number ≡ 12
  no_port_read e = rw (table_read, eq-eqb (port_count t) 0 e)

  pub some_port_read : 0 < port_count t → (read_table (encode_table t)).number ≡ 0
  some_port_read some = rw (table_read, ne_eqb (port_count t) 0 (λ e. omega (arith, e)))

  pub writable_formed : 0 < port_count t → WellFormed t
  writable_formed some = record {
    some_port_lem = some;
    few_ports = omega (arith, w.few_ports);
    few_links = omega (arith, w.few_links);
    ports = w.ports;
    links = λ k h. fits_more (port_count t) (w.links k h) (omega arith);
  }
