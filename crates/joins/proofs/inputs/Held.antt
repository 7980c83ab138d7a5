-- The slices hold what was read of the inputs so far.
use Prim.Native.Nat.{ℕ, ◌+◌, ◌-◌, ◌*◌, ◌≤◌}
use mathlib.Core.Path.{◌≡◌, refl, sym, ap, ◌∙◌}
use mathlib.Core.Bool.{Bool, true, false}
use mathlib.Core.List.{List, [], map}
use native.Mathlib.Nat.{sub-zero, sub_self}
use native.Mathlib.Omega.{arith}
use Rattle.std.specs.Prelude.{Result, Ok, Err}
use lib.ListN.{length, length-append, length-map}
use lib.Seq.{length-sets}
use Rattle.specification.specs.Table.{Table, port_count}
use Rattle.specification.specs.Reading.{Reading, read_on, start}
use Rattle.specification.specs.Joining.{moved, behind, read_first, read_second, both_tables, read_added, joined_table, Join, refusal, join_of}
use Rattle.table.specs.ReadingLaws.{read_on_fits, read_on_bytes}
use Rattle.table.specs.Slices.{port_numbers, link_numbers}
use Rattle.table.specs.Filled.{Room, FaultOf, Filled}
use Rattle.table.specs.FilledLaws.{moved_none, front_none, front_on}
use Rattle.joins.specs.JoinCases.{join_first, join_second, join_added, join_whole}
use Rattle.joins.specs.Refusals.{input_of}
use Rattle.joins.specs.InputsRead.{InputRead, Held, FaultRead, TablesRead, InputsRead}
use Rattle.specification.specs.declared.Before.{Before}
use Rattle.table.specs.declared.reading.Counts.{Counts}
use Rattle.joins.specs.declared.inputs.Input.{Input}
use Rattle.joins.specs.declared.inputs.Input.TheVariants.{First, Second, Added}
use Rattle.joins.specs.declared.inputs.InputFault.{InputFault}

-- what stands before an input that is read behind so many ports and links
abbrev pub before : (ports links named : ℕ) → Bool → Before
before ports links named may = record { ports = ports; links = links; named = named; port_may_come = may }

module _ {t : Table} {left : ℕ} {ports links : List ℕ} {p m : ℕ} (h : Held t left ports links p m) where
  pub held_room : {bytes named : ℕ} {may : Bool} → bytes ≤ left → named ≤ p → Room bytes (before p m named may) (length ports) (length links)
  held_room few own = record {
    few_ports = h.few_ports;
    few_links = h.few_links;
    own = own;
    port_room = omega (arith, h.port_room);
    link_room = omega (arith, h.link_room);
  }

  held_on : (s : List ℕ) (rest : ℕ) {ports' links' : List ℕ} {named : ℕ} {may : Bool} {c : Counts} → length s + rest ≤ left
      → Filled (before p m named may) (read_on s (before p m named may)) ports links ports' links' (Ok c)
      → Held (behind t (p - named) (read_on s (before p m named may)).table) rest ports' links' c.ports c.links
  held_on s rest {named = named} {may} few f =
      let b = before p m named may in
      let u = (read_on s b).table in
      let up = map (moved (p - named)) u.links in
      let fits = read_on_fits s b in
      let bytes = read_on_bytes s b in
      record {
        port_count_lem = omega (arith, f.port_count_lem, h.port_count_lem, length-append t.ports u.ports);
        link_count_lem = omega (arith, f.link_count_lem, h.link_count_lem, length-append t.links up, length-map u.links (moved (p - named)));
        few_ports = omega (arith, f.port_count_lem, fits.few_ports h.few_ports);
        few_links = omega (arith, f.link_count_lem, fits.few_links h.few_links);
        port_room = omega (arith, h.port_room, f.port_count_lem, bytes, ap length f.ports_are, length-sets ports (2 * p) (port_numbers u.ports));
        link_room = omega (arith, h.link_room, f.link_count_lem, bytes, ap length f.links_are, length-sets links (10 * m) (link_numbers up));
        front = front_on f h.front;
      }

-- an input that was read without a fault, and what the slices hold then
pub record Next (t : Table) (given : Reading) (left : ℕ) (ports links : List ℕ) (c : Counts) : Type 0 where
  pub number : given.number ≡ 0
  pub held : Held t left ports links c.ports c.links

module _ {ports links ports' links' : List ℕ} {c : Counts} where
  pub first_next : (first : List ℕ) (rest : ℕ) → Room (length first + rest) start (length ports) (length links)
      → InputRead first First start ports links ports' links' (Ok c)
      → Next (read_first first).table (read_first first) rest ports' links' c
  first_next first rest room f =
      let none : Held (record { ports = []; links = [] }) (length first + rest) ports links 0 0 = record {
        port_count_lem = refl;
        link_count_lem = refl;
        few_ports = omega arith;
        few_links = omega arith;
        port_room = room.port_room;
        link_room = room.link_room;
        front = front_none ports links;
      } in
      record {
        number = f.filled.returned.number;
        held = rw (moved_none (read_first first).table.links) at (held_on none first rest (omega arith) f.filled);
      }

  module _ {left p m : ℕ} where
    pub second_next : (first second : List ℕ) (rest : ℕ) → length second + rest ≤ left → Held (read_first first).table left ports links p m
        → InputRead second Second (before p m 0 true) ports links ports' links' (Ok c)
        → Next (both_tables first second) (read_second first second) rest ports' links' c
    unfolding both_tables
    second_next first second rest few h f = record {
      number = rw (h.port_count_lem, h.link_count_lem) at f.filled.returned.number;
      held = rw (h.port_count_lem, h.link_count_lem, sub-zero (port_count (read_first first).table)) at (held_on h second rest few f.filled);
    }

    pub added_next : (first second added : List ℕ) → length added ≤ left → Held (both_tables first second) left ports links p m
        → InputRead added Added (before p m p false) ports links ports' links' (Ok c)
        → Next (joined_table first second added) (read_added first second added) 0 ports' links' c
    unfolding joined_table
    added_next first second added few h f = record {
      number = rw (h.port_count_lem, h.link_count_lem) at f.filled.returned.number;
      held = rw (h.port_count_lem, h.link_count_lem, sub_self (port_count (both_tables first second))) at (held_on h added 0 (omega arith) f.filled);
    }

-- ---- the first fault
module _ {first second added : List ℕ} {f : InputFault} {ports links ports' links' : List ℕ} where
  fault_read : {s : List ℕ} {b : Before} {given : Reading} {input : Input} → InputRead s input b ports links ports' links' (Err f)
      → join_of first second added ≡ refusal given.number given.place (input_of input)
      → FaultOf given f.fault
      → FaultRead first second added ports' links' f
  fault_read {s = s} {b} r e w =
      let t = (read_on s b).table in
      record {
        refused = record {
          is = e ∙ rw (w.number, w.place, r.named) refl;
          some = λ z. w.some (sym (ap (λ (j : Join). j.number) e) ∙ z);
        };
        port_room = omega (arith, r.filled.port_room, ap length r.filled.ports_are, length-sets ports (2 * b.ports) (port_numbers t.ports));
        link_room = omega (
          arith,
          r.filled.link_room,
          ap length r.filled.links_are,
          length-sets links (10 * b.links) (link_numbers (map (moved (b.ports - b.named)) t.links)),
        );
      }

  pub first_faulty : InputRead first First start ports links ports' links' (Err f) → FaultRead first second added ports' links' f
  first_faulty r = fault_read r (join_first first second added r.filled.returned.some) r.filled.returned

  module _ {left p m : ℕ} where
    pub second_faulty : (read_first first).number ≡ 0 → Held (read_first first).table left ports links p m
        → InputRead second Second (before p m 0 true) ports links ports' links' (Err f)
        → FaultRead first second added ports' links' f
    second_faulty z h r =
        let w : FaultOf (read_second first second) f.fault = rw (h.port_count_lem, h.link_count_lem) at r.filled.returned in
        fault_read r (join_second first second added z w.some) w

    pub added_faulty : (read_first first).number ≡ 0 → (read_second first second).number ≡ 0 → Held (both_tables first second) left ports links p m
        → InputRead added Added (before p m p false) ports links ports' links' (Err f)
        → FaultRead first second added ports' links' f
    added_faulty z y h r =
        let w : FaultOf (read_added first second added) f.fault = rw (h.port_count_lem, h.link_count_lem) at r.filled.returned in
        fault_read r (join_added first second added z y w.some) w

-- ---- the tables, the second behind the first
pub tables_read : (first second : List ℕ) {ports links ports₁ links₁ ports₂ links₂ : List ℕ} {one : Counts} (r : Result Counts InputFault)
    → Room (length first + length second) start (length ports) (length links)
    → InputRead first First start ports links ports₁ links₁ (Ok one)
    → InputRead second Second (before one.ports one.links 0 true) ports₁ links₁ ports₂ links₂ r
    → TablesRead first second ports links ports₂ links₂ r
tables_read first second (Err f) room a b =
    let n = first_next first (length second) room a in
    λ added. second_faulty n.number n.held b
tables_read first second {ports} {links} {ports₂ = ports₂} {links₂ = links₂} (Ok c) room a b =
    let both : (left : ℕ) → Room (length first + length second + left) start (length ports) (length links)
    → Next (both_tables first second) (read_second first second) left ports₂ links₂ c =
    λ left more.
    let same : length first + length second + left ≡ length first + (length second + left) = omega arith in
    second_next first second left (omega arith) (first_next first (length second + left) (rw same at more) a).held b in
    let same : length first + length second ≡ length first + length second + 0 = omega arith in
    let n = both 0 (rw same at room) in
    record {
      first_read = a.filled.returned.number;
      second_read = n.number;
      held = λ left more. (both left more).held;
      port_room = omega (arith, n.held.few_ports, n.held.port_room);
      link_room = omega (arith, n.held.few_links, n.held.link_room);
    }

-- ---- the added records behind them
pub all_read : (first second added : List ℕ) {left p m : ℕ} {ports links ports' links' : List ℕ} (r : Result Counts InputFault)
    → (read_first first).number ≡ 0
    → (read_second first second).number ≡ 0
    → length added ≤ left
    → Held (both_tables first second) left ports links p m
    → InputRead added Added (before p m p false) ports links ports' links' r
    → InputsRead first second added ports' links' r
all_read first second added (Err f) z y few h b = added_faulty z y h b
all_read first second added (Ok c) z y few h b =
    let n = added_next first second added few h b in
    record {
      is = join_whole first second added z y n.number;
      port_room = omega (arith, n.held.few_ports, n.held.port_room);
      link_room = omega (arith, n.held.few_links, n.held.link_room);
      front = n.held.front;
    }
