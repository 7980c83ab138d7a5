-- The joined table is within the limits, so it can be read back, and is no longer than the longest table.
use Rattle.std.specs.Prelude.{ℕ, ◌+◌, ◌≤◌, ◌≡◌, refl, List, map, length}
use Rattle.std.proofs.Common.{arith, length-append}
use Rattle.std.proofs.lemmas.List.{length-map}
use Rattle.specification.specs.Table.{Table, port_count, link_count, no_port, no_link, most_ports}
use Rattle.specification.specs.Reading.{read_on, start}
use Rattle.specification.specs.Encoding.{encode_table, most_table_bytes}
use Rattle.specification.specs.Joining.{moved, behind, before_second, before_added, read_first, both_tables, joined_table}
use Rattle.table.specs.WellFormed.{PortFits, LinkFits, OneSided}
use Rattle.table.specs.ReadingLaws.{Fitting, between, between_fits, fits_more, read_on_fits}
use Rattle.joins.specs.EachLaws.{each_append, each_map}
use Rattle.encoding.specs.EncodingLaws.{ports_length, links_most, table_length}
use Rattle.encoding.specs.ReadBack.{Writable}
use Rattle.specification.specs.declared.Link.{Link}
use Rattle.specification.specs.declared.Before.{Before}

pub between_sided : {l : Link} (from to : ℕ) → OneSided l → OneSided (between from to l)
between_sided from to o = record { ticks = o.ticks; events = o.events; no_events = o.no_events; whole_events = o.whole_events }

-- what was read behind a table, with the ends moved by the ports that it could not name
behind_writable : (t u : Table) (b : Before) (by : ℕ) → b.ports ≡ port_count t → b.links ≡ link_count t → by + b.named ≡ port_count t
    → Writable start t
    → Fitting b u.ports u.links
    → Writable start (behind t by u)
behind_writable t u b by ports links named w f =
    let up = map (moved by) u.links in
    let n = port_count (behind t by u) in
    let long = length-append t.ports u.ports in
    let few : 0 + n ≤ most_ports = omega (arith, long, w.few_ports, f.few_ports (omega (arith, w.few_ports))) in
    record {
      few_ports = few;
      few_links = omega (arith, length-append t.links up, length-map u.links (moved by), f.few_links (omega (arith, w.few_links)));
      few_named = few;
      may_come = λ _. refl;
      ports = each_append PortFits no_port t.ports u.ports w.ports f.ports;
      links = each_append (LinkFits (0 + n)) no_link t.links up (λ k h. fits_more (0 + n) (w.links k h) (omega (arith, long)))
          (each_map (LinkFits (b.named + port_count u)) (LinkFits (0 + n)) no_link (moved by) u.links (λ l g. between_fits (by + l.from) (by + l.to) g (omega (arith, long, g.from)) (omega (arith, long, g.to))) f.links);
      sided = each_append OneSided no_link t.links up w.sided
          (each_map OneSided OneSided no_link (moved by) u.links (λ l g. between_sided (by + l.from) (by + l.to) g) f.sided);
    }

first_writable : (s : List ℕ) → Writable start (read_first s).table
first_writable s =
    let f = read_on_fits s start in
    record {
      few_ports = f.few_ports (omega arith);
      few_links = f.few_links (omega arith);
      few_named = f.few_ports (omega arith);
      may_come = λ _. refl;
      ports = f.ports;
      links = f.links;
      sided = f.sided;
    }

both_writable : (first second : List ℕ) → Writable start (both_tables first second)
unfolding both_tables
both_writable first second =
    let t = (read_first first).table in
    let b = before_second t in
    behind_writable t (read_on second b).table b (port_count t) refl refl (omega arith) (first_writable first) (read_on_fits second b)

-- whatever the numbers of the three readings, since what is read before a fault is within the limits
pub joined_writable : (first second added : List ℕ) → Writable start (joined_table first second added)
unfolding joined_table
joined_writable first second added =
    let t = both_tables first second in
    let b = before_added t in
    behind_writable t (read_on added b).table b 0 refl refl (omega arith) (both_writable first second) (read_on_fits added b)

pub joined_most : (first second added : List ℕ) → length (encode_table (joined_table first second added)) ≤ most_table_bytes
joined_most first second added =
    let t = joined_table first second added in
    let w = joined_writable first second added in
    omega (arith, table_length t, ports_length t.ports, links_most t.links, w.few_ports, w.few_links)
