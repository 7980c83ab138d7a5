-- Reading depends on what stands before only by the limits, by the ports that can be named and by whether a port may come.
use Rattle.std.specs.Prelude.{ℕ, zero, suc, ◌+◌, ◌≤◌, ◌<◌, ◌≡◌, refl, true, false, List, length, eqb}
use Rattle.std.proofs.Common.{ap, ◌∙◌, arith}
use borrow.Author.Tests.{lt-leb, le-leb}
use Rattle.specification.specs.Bytes.{number_at}
use Rattle.specification.specs.Table.{most_ports, most_links}
use Rattle.specification.specs.Reading.{port_at, link_at, connection_at, buffer_at, fraction_at, kind_at, record_at, Reading, with_port, with_link, after, read_from, read_on}
use Rattle.table.specs.RecordLaws.{Accepted, accepted}
use Rattle.specification.specs.declared.Before.{Before}
use Rattle.specification.specs.declared.Read.{Read}
use Rattle.specification.specs.declared.Read.TheVariants.{PortRecord, LinkRecord, Refused, End}

-- ---- one record
-- at a full table the tests of room for ports and for links may differ, so only the one of the record's own kind is compared
module _ (s : List ℕ) (at : ℕ) (b b' : Before) where
  port_elsewhere : eqb (number_at s (at + 2) 2) 1 ≡ true → b.ports < most_ports → b'.ports < most_ports → b.port_may_come ≡ b'.port_may_come
      → record_at s at b' ≡ record_at s at b
  unfolding record_at kind_at port_at
  port_elsewhere kind room room' may = rw (kind, lt-leb most_ports b.ports room, lt-leb most_ports b'.ports room', may)

  link_elsewhere : eqb (number_at s (at + 2) 2) 1 ≡ false → b.links < most_links → b'.links < most_links → b.named ≡ b'.named
      → record_at s at b' ≡ record_at s at b
  unfolding record_at kind_at connection_at buffer_at fraction_at link_at
  link_elsewhere kind room room' named = rw (kind, lt-leb most_links b.links room, lt-leb most_links b'.links room', named)

  end_elsewhere : length s ≤ at → record_at s at b' ≡ record_at s at b
  unfolding record_at
  end_elsewhere h = rw (le-leb (length s) at h)

-- ---- all records
-- what is read the same behind b' as behind b, where it has no fault there and is within the limits here
record Elsewhere (b b' : Before) (r r' : Reading) : Type 0 where
  same : b.named ≡ b'.named → b.port_may_come ≡ b'.port_may_come → r.number ≡ 0
      → b'.ports + length r.table.ports ≤ most_ports
      → b'.links + length r.table.links ≤ most_links
      → r' ≡ r

after_elsewhere : (s : List ℕ) (at : ℕ) (b b' : Before) (rest : ℕ → Before → Reading) (r : Read) → record_at s at b ≡ r → Accepted s at b r
    → ((next : ℕ) (c c' : Before) → Elsewhere c c' (rest next c) (rest next c'))
    → Elsewhere b b' (after rest b r) (after rest b' (record_at s at b'))
after_elsewhere s at b b' rest (PortRecord p next) e a each = record {
  same = λ named may none few_ports few_links.
      rw (
        port_elsewhere s at b b' a.kind a.room (omega arith) may ∙ e,
        (each next (with_port b) (with_port b')).same (ap (λ (n : ℕ). n + 1) named) may none (omega arith) few_links,
      );
}
after_elsewhere s at b b' rest (LinkRecord l next) e a each = record {
  same = λ named may none few_ports few_links.
      rw (
        link_elsewhere s at b b' a.kind a.room (omega arith) named ∙ e,
        (each next (with_link b) (with_link b')).same named refl none few_ports (omega arith),
      );
}
after_elsewhere s at b b' rest (Refused number place) e a each = record { same = λ named may none few_ports few_links. absurd (omega (arith, a.least, none)) }
after_elsewhere s at b b' rest End e a each = record { same = λ named may none few_ports few_links. rw (end_elsewhere s at b b' a.behind ∙ e) }

from_elsewhere : (n : ℕ) (s : List ℕ) (at : ℕ) (b b' : Before) → Elsewhere b b' (read_from n s at b) (read_from n s at b')
unfolding read_from
from_elsewhere zero s at b b' = record { same = λ named may none few_ports few_links. refl }
from_elsewhere (suc n) s at b b' =
    after_elsewhere s at b b' (read_from n s) (record_at s at b) refl (accepted s at b) (λ next c c'. from_elsewhere n s next c c')

pub read_elsewhere : (s : List ℕ) (b b' : Before) → b.named ≡ b'.named → b.port_may_come ≡ b'.port_may_come → (read_on s b).number ≡ 0
    → b'.ports + length (read_on s b).table.ports ≤ most_ports
    → b'.links + length (read_on s b).table.links ≤ most_links
    → read_on s b' ≡ read_on s b
unfolding read_on
read_elsewhere s b b' = (from_elsewhere (length s + 1) s 0 b b').same
