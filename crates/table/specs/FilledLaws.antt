-- What a caller of the reader knows of the slices.
use Rattle.std.specs.Prelude.{ℕ, ◌+◌, ◌-◌, ◌*◌, ◌≤◌, ◌≡◌, refl, List, [], ◌∷◌, ◌++◌, map, length, take, drop, Result, Ok}
use Rattle.std.proofs.Common.{ap, ◌∙◌, zero-add, arith, length-append, length-take-le, take_at}
use Rattle.std.proofs.lemmas.List.{length-map}
use Rattle.std.proofs.lemmas.List.Edits.{sets, sets-eq}
use Rattle.specification.specs.Table.{Table}
use Rattle.table.specs.WellFormed.{WellFormed}
use Rattle.table.specs.Slices.{port_numbers, link_numbers, table_of}
use Rattle.table.specs.SliceLaws.{length_port_numbers, length_link_numbers, table_back}
use Rattle.specification.specs.Reading.{Reading, start, read_table}
use Rattle.table.specs.ReadingLaws.{well_formed}
use Rattle.table.specs.Filled.{counts_of, Filled, Front, front_of}
use Rattle.specification.specs.Joining.{moved, behind}
use Rattle.specification.specs.declared.Port.{Port}
use Rattle.specification.specs.declared.Link.{Link}
use Rattle.specification.specs.declared.Before.{Before}
use Rattle.table.specs.declared.reading.Counts.{Counts}
use Rattle.table.specs.declared.reading.ReadFault.{ReadFault}

port_numbers_append : (ps qs : List Port) → port_numbers (ps ++ qs) ≡ port_numbers ps ++ port_numbers qs
port_numbers_append [] qs = refl
port_numbers_append (p ∷ ps) qs = rw (port_numbers_append ps qs)

link_numbers_append : (ls ks : List Link) → link_numbers (ls ++ ks) ≡ link_numbers ls ++ link_numbers ks
link_numbers_append [] ks = refl
link_numbers_append (l ∷ ls) ks = rw (link_numbers_append ls ks)

pub moved_none : (ls : List Link) → map (moved 0) ls ≡ ls
moved_none [] = refl
moved_none (l ∷ ls) = rw (zero-add l.from, zero-add l.to, moved_none ls)

-- the front of a list with numbers stored behind a place
front_sets : (s vs : List ℕ) (i n : ℕ) → n ≡ i + length vs → n ≤ length s → take n (sets s i vs) ≡ take i s ++ vs
front_sets s vs i n e h =
    let room : i + length vs ≤ length s = omega arith in
    let long : length (take i s ++ vs) ≡ n = omega (arith, length-append (take i s) vs, length-take-le i s (omega arith)) in
    rw (sets-eq vs s i room) (take_at (take i s ++ vs) (drop (i + length vs) s) n long)

pub front_none : (ports links : List ℕ) → Front (record { ports = []; links = [] }) ports links 0 0
front_none ports links = record { ports_are = refl; links_are = refl }

-- the table of the slices' parts
pub front_table : {t : Table} {ports links : List ℕ} {p m : ℕ} → Front t ports links p m → table_of (take (2 * p) ports) (take (10 * m) links) ≡ t
front_table {t} f = rw (f.ports_are, f.links_are) (table_back t)

module _ {b : Before} {r : Reading} {ports links ports' links' : List ℕ} {c : Result Counts ReadFault} (f : Filled b r ports links ports' links' c) where
  -- a table at the front of the slices, and what was read behind it
  pub front_on : {t : Table} → Front t ports links b.ports b.links
      → Front (behind t (b.ports - b.named) r.table) ports' links' (counts_of c).ports (counts_of c).links
  front_on {t} g =
      let ps = r.table.ports in
      let ls = map (moved (b.ports - b.named)) r.table.links in
      record {
        ports_are = rw (f.ports_are, port_numbers_append t.ports ps, ← g.ports_are) (
            front_sets ports (port_numbers ps) (2 * b.ports) (2 * (counts_of c).ports) (omega (arith, f.port_count_lem, length_port_numbers ps)) f.port_room);
        links_are = rw (f.links_are, link_numbers_append t.links ls, ← g.links_are) (
            front_sets links (link_numbers ls) (10 * b.links) (10 * (counts_of c).links)
            (omega (arith, f.link_count_lem, length_link_numbers ls, length-map r.table.links (moved (b.ports - b.named)))) f.link_room);
      }

module _ {r : Reading} {ports links ports' links' : List ℕ} {c : Result Counts ReadFault} (f : Filled start r ports links ports' links' c) where
  pub front_read : Front r.table ports' links' (counts_of c).ports (counts_of c).links
  front_read = let g = front_on f (front_none ports links) in record { ports_are = g.ports_are; links_are = g.links_are ∙ ap link_numbers (moved_none r.table.links) }

  pub table_read : front_of (counts_of c) ports' links' ≡ r.table
  table_read = front_table front_read

pub formed_read : (s : List ℕ) {ports links ports' links' : List ℕ} {c : Counts} → Filled start (read_table s) ports links ports' links' (Ok c)
    → WellFormed (front_of c ports' links')
formed_read s f = rw (table_read f) (well_formed s refl f.returned.number)
