-- What a turn of the reading loop keeps: what fills the slices from here fills them from the start.
use Prim.Native.Nat.{ℕ, suc, ◌+◌, ◌-◌, ◌*◌, ◌≤◌, ◌<◌}
use mathlib.Core.Path.{◌≡◌, refl, ◌∙◌}
use mathlib.Core.List.{List, [], ◌∷◌}
use native.Mathlib.Omega.{arith}
use native.Mathlib.Nat.{sub-zero}
use native.Mathlib.Numerals.{add-one}
use lib.ListN.{length}
use lib.Seq.{sets, length-sets}
use Rattle.table.specs.Slices.{port_numbers, link_numbers}
use Rattle.specification.specs.Table.{most_ports}
use Rattle.table.specs.WellFormed.{PortFits, LinkFits}
use Rattle.specification.specs.Reading.{record_at, with_port, with_link, after, read_from, read_on}
use Rattle.table.specs.RecordLaws.{Accepted, accepted}
use Rattle.table.specs.ReadingLaws.{between_fits}
use Rattle.table.specs.Filled.{Room, counts_before, Filled}
use Rattle.specification.specs.Joining.{moved}
use Rattle.specification.specs.declared.Port.{Port}
use Rattle.specification.specs.declared.Link.{Link}
use Rattle.specification.specs.declared.Before.{Before}
use Rattle.specification.specs.declared.Read.{Read}
use Rattle.specification.specs.declared.Read.TheVariants.{PortRecord, LinkRecord}
use Rattle.std.specs.Prelude.{Option, Some, None, Result, Ok, Err}
use Rattle.table.specs.Found.{read_of}
use Rattle.table.specs.declared.record.Record.{Record}
use Rattle.table.specs.declared.record.Record.TheVariants.{Port as PortFound, Link as LinkFound}
use Rattle.refusals.specs.declared.Fault.{Fault}
use Rattle.table.specs.declared.reading.Counts.{Counts}
use Rattle.table.specs.declared.reading.ReadFault.{ReadFault}
use Rattle.table.proofs.reading.Filling.{filled_end, filled_refused, filled_port, filled_link}

module _ (s ports₀ links₀ : List ℕ) (by : ℕ) (b₀ : Before) where
  -- `left` is the bound that is left
  pub record Going (ports links : List ℕ) (b : Before) (at : ℕ) : Type 0 where
    pub left : ℕ
    pub on : (ports' links' : List ℕ) (c : Result Counts ReadFault) → Filled b (read_from (suc left) s at b) ports links ports' links' c
        → Filled b₀ (read_on s b₀) ports₀ links₀ ports' links' c
    pub enough : length s ≤ left + at
    pub inside : at ≤ length s
    pub room : Room (length s - at) b (length ports) (length links)
    pub apart : by ≡ b.ports - b.named
    pub long_ports : length ports ≡ length ports₀
    pub long_links : length links ≡ length links₀

  -- the same with the next record read
  pub record Turn (ports links : List ℕ) (b : Before) (at : ℕ) (r : Read) : Type 0 where
    pub going : Going ports links b at
    pub told : Accepted s at b r
    pub then : (ports' links' : List ℕ) (c : Result Counts ReadFault) → Filled b (after (read_from going.left s) b r) ports links ports' links' c
        → Filled b₀ (read_on s b₀) ports₀ links₀ ports' links' c

pub started : (s ports links : List ℕ) {by : ℕ} {b : Before} → Room (length s) b (length ports) (length links) → by ≡ b.ports - b.named
    → Going s ports links by b ports links b 0
unfolding read_on
started s ports links room e = record {
  left = length s;
  on = λ _ _ _ f. rw (add-one (length s)) f;
  enough = omega arith;
  inside = omega arith;
  room = rw (sub-zero (length s)) room;
  apart = e;
  long_ports = refl;
  long_links = refl;
}

-- a bound that is not used up yet
some_left : (n size at : ℕ) → size ≤ n + at → at < size → n ≡ suc (n - 1)
some_left n size at h k = omega arith

module _ {s ports₀ links₀ : List ℕ} {by : ℕ} {b₀ : Before} {ports links : List ℕ} {b : Before} {at : ℕ} where
  -- what was read is the next record
  turn : {r : Read} → Going s ports₀ links₀ by b₀ ports links b at → r ≡ record_at s at b → Turn s ports₀ links₀ by b₀ ports links b at r
  unfolding read_from
  turn g e = rw e (record { going = g; told = accepted s at b; then = g.on })

  pub port_turn : {read : Result (Option (Record × ℕ)) Fault} {x : Option (Record × ℕ)} {r : Record} {p : Port} {next : ℕ}
      → Going s ports₀ links₀ by b₀ ports links b at
      → read_of read ≡ record_at s at b
      → read ≡ Ok x
      → x ≡ Some (r, next)
      → r ≡ PortFound p
      → Turn s ports₀ links₀ by b₀ ports links b at (PortRecord p next)
  port_turn g is ok some port = turn g (rw (ok, some, port) at is)

  pub link_turn : {read : Result (Option (Record × ℕ)) Fault} {x : Option (Record × ℕ)} {r : Record} {l : Link} {next : ℕ}
      → Going s ports₀ links₀ by b₀ ports links b at
      → read_of read ≡ record_at s at b
      → read ≡ Ok x
      → x ≡ Some (r, next)
      → r ≡ LinkFound l
      → Turn s ports₀ links₀ by b₀ ports links b at (LinkRecord l next)
  link_turn g is ok some link = turn g (rw (ok, some, link) at is)

  -- the slices have room for the record, and what is stored is within the limits
  pub port_fits : {p : Port} {next : ℕ} → Turn s ports₀ links₀ by b₀ ports links b at (PortRecord p next)
      → (2 * b.ports + 2 ≤ length ports) × PortFits p
  port_fits w = (omega (arith, w.going.room, w.told), w.told.fits)

  pub link_fits : {l l' : Link} {next : ℕ} → Turn s ports₀ links₀ by b₀ ports links b at (LinkRecord l next) → l' ≡ moved by l
      → (10 * b.links + 10 ≤ length links) × LinkFits most_ports l'
  link_fits {l} w d =
      let f = w.told.fits in
      let g = w.going in
      let from : by + l.from < most_ports = omega (arith, f.from, g.room, g.apart) in
      let to : by + l.to < most_ports = omega (arith, f.to, g.room, g.apart) in
      (omega (arith, g.room, w.told), rw d (between_fits (by + l.from) (by + l.to) f from to))

  pub port_read : {p : Port} {next : ℕ} {ports' : List ℕ} {b' : Before} → Turn s ports₀ links₀ by b₀ ports links b at (PortRecord p next)
      → ports' ≡ sets ports (2 * b.ports) (port_numbers (p ∷ []))
      → b' ≡ with_port b
      → Going s ports₀ links₀ by b₀ ports' links b' next
  port_read {p} w stored e =
      let g = w.going in
      let left : g.left ≡ suc (g.left - 1) = some_left g.left (length s) at g.enough (omega (arith, w.told.onward)) in
      let long = length-sets ports (2 * b.ports) (port_numbers (p ∷ [])) in
      rw (stored, e) (record {
        left = g.left - 1;
        on = λ ps ls c f. w.then ps ls c (rw left (filled_port p c f));
        enough = omega (arith, w.told.onward, left, g.enough);
        inside = w.told.onward.within;
        room = record {
          few_ports = omega (arith, w.told.room);
          few_links = g.room.few_links;
          own = omega (arith, g.room.own);
          port_room = omega (arith, g.room.port_room, w.told.onward, long);
          link_room = omega (arith, g.room.link_room, w.told.onward);
        };
        apart = omega (arith, g.apart);
        long_ports = long ∙ g.long_ports;
        long_links = g.long_links;
      })

  pub link_read : {l l' : Link} {next : ℕ} {links' : List ℕ} {b' : Before} → Turn s ports₀ links₀ by b₀ ports links b at (LinkRecord l next)
      → l' ≡ moved by l
      → links' ≡ sets links (10 * b.links) (link_numbers (l' ∷ []))
      → b' ≡ with_link b
      → Going s ports₀ links₀ by b₀ ports links' b' next
  link_read {l} w d stored e =
      let g = w.going in
      let left : g.left ≡ suc (g.left - 1) = some_left g.left (length s) at g.enough (omega (arith, w.told.onward)) in
      let long = length-sets links (10 * b.links) (link_numbers (moved (b.ports - b.named) l ∷ [])) in
      rw (stored, e, d, g.apart) (record {
        left = g.left - 1;
        on = λ ps ls c f. w.then ps ls c (rw left (filled_link l c f));
        enough = omega (arith, w.told.onward, left, g.enough);
        inside = w.told.onward.within;
        room = record {
          few_ports = g.room.few_ports;
          few_links = omega (arith, w.told.room);
          own = g.room.own;
          port_room = omega (arith, g.room.port_room, w.told.onward);
          link_room = omega (arith, g.room.link_room, w.told.onward, long);
        };
        apart = refl;
        long_ports = g.long_ports;
        long_links = long ∙ g.long_links;
      })

  pub refused : {read : Result (Option (Record × ℕ)) Fault} {f : Fault} {c : Counts} → Going s ports₀ links₀ by b₀ ports links b at
      → read_of read ≡ record_at s at b
      → read ≡ Err f
      → c ≡ counts_before b
      → Filled b₀ (read_on s b₀) ports₀ links₀ ports links (Err (record { fault = f; counts = c }))
  refused {f = f} g is err e = rw e ((turn g (rw err at is)).then _ _ _ (filled_refused f g.room))

  pub ended : {read : Result (Option (Record × ℕ)) Fault} {x : Option (Record × ℕ)} {c : Counts} → Going s ports₀ links₀ by b₀ ports links b at
      → read_of read ≡ record_at s at b
      → read ≡ Ok x
      → x ≡ None
      → c ≡ counts_before b
      → Filled b₀ (read_on s b₀) ports₀ links₀ ports links (Ok c)
  ended g is ok none e = rw e ((turn g (rw (ok, none) at is)).then _ _ _ (filled_end g.room))
