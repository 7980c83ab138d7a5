-- What each record adds to slices that are being filled.
use Prim.Native.Nat.{ℕ, suc, ◌+◌, ◌-◌, ◌*◌}
use mathlib.Core.Path.{◌≡◌, refl}
use mathlib.Core.List.{List, [], ◌∷◌}
use mathlib.Core.Logic.{◌≢◌}
use native.Mathlib.Omega.{arith}
use borrow.Author.Tests.{eq-eqb, ne_eqb}
use lib.ListN.{length}
use lib.Seq.{sets, length-sets}
use Rattle.std.specs.Prelude.{Result, Ok, Err}
use Rattle.refusals.specs.Numbers.{number_of}
use Rattle.refusals.specs.declared.Refusal.{Refusal}
use Rattle.refusals.specs.declared.Refusal.TheVariants.{ShortAnswer, Length, Kind, KindLength, LatePort, Ports, Links, Rate, Ends, Ratio, Delays, NoPort, Ratios, Weight, Blocked, ShortTable, NoLeast, Held, Range}
use Rattle.refusals.specs.declared.Fault.{Fault}
use Rattle.table.specs.Slices.{port_numbers, link_numbers}
use Rattle.specification.specs.Reading.{Reading, with_port, with_link, nothing, add_port, add_link, start, some_port}
use Rattle.table.specs.Filled.{Room, Returned, counts_of, counts_before, Filled}
use Rattle.specification.specs.Joining.{moved}
use Rattle.specification.specs.declared.Port.{Port}
use Rattle.specification.specs.declared.Link.{Link}
use Rattle.specification.specs.declared.Before.{Before}
use Rattle.specification.specs.Table.{Table}
use Rattle.table.specs.declared.reading.Counts.{Counts}
use Rattle.table.specs.declared.reading.ReadFault.{ReadFault}

-- no refusal has number 0
some_number : (r : Refusal) → number_of r ≢ 0
some_number ShortAnswer e = absurd (omega (arith, e))
some_number Length e = absurd (omega (arith, e))
some_number Kind e = absurd (omega (arith, e))
some_number KindLength e = absurd (omega (arith, e))
some_number LatePort e = absurd (omega (arith, e))
some_number Ports e = absurd (omega (arith, e))
some_number Links e = absurd (omega (arith, e))
some_number Rate e = absurd (omega (arith, e))
some_number Ends e = absurd (omega (arith, e))
some_number Ratio e = absurd (omega (arith, e))
some_number Delays e = absurd (omega (arith, e))
some_number NoPort e = absurd (omega (arith, e))
some_number Ratios e = absurd (omega (arith, e))
some_number Weight e = absurd (omega (arith, e))
some_number Blocked e = absurd (omega (arith, e))
some_number ShortTable e = absurd (omega (arith, e))
some_number NoLeast e = absurd (omega (arith, e))
some_number Held e = absurd (omega (arith, e))
some_number Range e = absurd (omega (arith, e))

-- what is returned speaks of no table
returned_with : (r : Reading) (t : Table) (c : Result Counts ReadFault) → Returned r c → Returned (record { number = r.number; place = r.place; table = t }) c
returned_with r t (Ok c) f = record { number = f.number; place = f.place }
returned_with r t (Err e) f = record { number = f.number; place = f.place; some = f.some }

module _ {b : Before} {ports links : List ℕ} where
  filled_nothing : {bytes number place : ℕ} {c : Result Counts ReadFault} → Returned (nothing number place) c → (counts_of c).ports ≡ b.ports → (counts_of c).links ≡ b.links
      → Room bytes b (length ports) (length links)
      → Filled b (nothing number place) ports links ports links c
  filled_nothing returned same_ports same_links room = record {
    returned = returned;
    port_count_lem = omega (arith, same_ports);
    link_count_lem = omega (arith, same_links);
    port_room = omega (arith, room, same_ports);
    link_room = omega (arith, room, same_links);
    ports_are = refl;
    links_are = refl;
  }

  -- no record is left
  pub filled_end : {bytes : ℕ} → Room bytes b (length ports) (length links)
      → Filled b (nothing 0 0) ports links ports links (Ok (counts_before b))
  filled_end room = filled_nothing (record { number = refl; place = refl }) refl refl room

  -- the next record is refused
  pub filled_refused : {bytes : ℕ} (f : Fault) → Room bytes b (length ports) (length links)
      → Filled b (nothing (number_of f.refusal) f.place) ports links ports links (Err (record { fault = f; counts = counts_before b }))
  filled_refused f room = filled_nothing (record { number = refl; place = refl; some = some_number f.refusal }) refl refl room

  module _ {r : Reading} {ports' links' : List ℕ} where
    pub filled_port : (p : Port) (c : Result Counts ReadFault) → Filled (with_port b) r (sets ports (2 * b.ports) (port_numbers (p ∷ []))) links ports' links' c
        → Filled b (add_port p r) ports links ports' links' c
    filled_port p c f =
        let on : 2 * (b.ports + 1) ≡ suc (suc (2 * b.ports)) = omega arith in
        let by : (b.ports + 1) - (b.named + 1) ≡ b.ports - b.named = omega arith in
        record {
          returned = returned_with r (add_port p r).table c f.returned;
          port_count_lem = omega (arith, f.port_count_lem);
          link_count_lem = f.link_count_lem;
          port_room = omega (arith, f.port_room, length-sets ports (2 * b.ports) (p.num ∷ p.den ∷ []));
          link_room = f.link_room;
          ports_are = rw on at f.ports_are;
          links_are = rw by at f.links_are;
        }

    pub filled_link : (l : Link) (c : Result Counts ReadFault)
        → Filled (with_link b) r ports (sets links (10 * b.links) (link_numbers (moved (b.ports - b.named) l ∷ []))) ports' links' c
        → Filled b (add_link l r) ports links ports' links' c
    filled_link l c f =
        let on : 10 * (b.links + 1) ≡ suc (suc (suc (suc (suc (suc (suc (suc (suc (suc (10 * b.links)))))))))) = omega arith in
        record {
          returned = returned_with r (add_link l r).table c f.returned;
          port_count_lem = f.port_count_lem;
          link_count_lem = omega (arith, f.link_count_lem);
          port_room = f.port_room;
          link_room = omega (arith, f.link_room, length-sets links (10 * b.links) (link_numbers (moved (b.ports - b.named) l ∷ [])));
          ports_are = f.ports_are;
          links_are = rw on at f.links_are;
        }

-- ---- 12 where there is no port
module _ {r : Reading} {ports links ports' links' : List ℕ} where
  module _ {c : Counts} (f : Filled start r ports links ports' links' (Ok c)) where
    pub no_port_lem : {e : Fault} → c.ports ≡ 0 → e ≡ record { refusal = NoPort; place = 0 }
        → Filled start (some_port r) ports links ports' links' (Err (record { fault = e; counts = c }))
    no_port_lem none e =
        rw (e, eq-eqb r.number 0 f.returned.number, eq-eqb (length r.table.ports) 0 (omega (arith, f.port_count_lem))) (record {
          returned = record { number = refl; place = f.returned.place; some = some_number NoPort };
          port_count_lem = f.port_count_lem;
          link_count_lem = f.link_count_lem;
          port_room = f.port_room;
          link_room = f.link_room;
          ports_are = f.ports_are;
          links_are = f.links_are;
        })

    pub some_port_lem : c.ports ≢ 0 → Filled start (some_port r) ports links ports' links' (Ok c)
    some_port_lem d =
        rw (eq-eqb r.number 0 f.returned.number, ne_eqb (length r.table.ports) 0 (λ g. d (omega (arith, f.port_count_lem)))) f

  pub faulty : {e : ReadFault} {c : Result Counts ReadFault} → Filled start r ports links ports' links' (Err e) → c ≡ Err e
      → Filled start (some_port r) ports links ports' links' c
  faulty f e = rw (e, ne_eqb r.number 0 f.returned.some) f
