-- The number and the place of a fault.
use Rattle.std.specs.Prelude.{ℕ, zero, suc, ◌+◌, ◌*◌, ◌-◌, ◌≤◌, ◌<◌, ◌≢◌, ◌⊎◌, Bool, not, cond, List, [], ◌∷◌, length, take, eqb, ltb}
use Rattle.std.proofs.Math.Path.{◌≡◌, refl}
use Rattle.std.proofs.Common.{sym, ◌∙◌, inl, inr, arith, add-zero, length-take-le}
use Rattle.std.proofs.Math.Bool.{true, false, and-true, and-false}
use borrow.Author.Tests.{eqb-true, eqb-false, ne_eqb, not-false, le-leb, lt-leb, le-ltb}
use Rattle.specification.specs.Bytes.{number_at}
use Rattle.specification.specs.Table.{Table, port_count, link_count, most_ports, most_links}
use Rattle.specification.specs.Reading.{refuse, length_faulty, parts_faulty, rate_faulty, ends_faulty, ticks_at, events_at, port_of, link_of, port_at, link_at, connection_at, buffer_at, fraction_at, kind_at, record_at, Reading, with_port, with_link, after, read_from, read_on, with_table, FaultPlace, start, read_table}
use Rattle.specification.specs.Answers.{least_room, answer_place}
use Rattle.specification.specs.Demanded.{TableFault}
use Rattle.specification.specs.Joining.{RecordFault}
use Rattle.records.specs.NumberLaws.{number_front}
use Rattle.table.specs.RecordLaws.{Onward, Accepted, accepted}
use Rattle.table.specs.ReadingLaws.{bound_decides_nothing, read_on_fits}
use Rattle.specification.specs.declared.Port.{Port}
use Rattle.specification.specs.declared.Link.{Link}
use Rattle.specification.specs.declared.Before.{Before}
use Rattle.specification.specs.declared.Events.{Events}
use Rattle.specification.specs.declared.Read.{Read}
use Rattle.specification.specs.declared.Read.TheVariants.{PortRecord, LinkRecord, Refused, End}

-- ---- the front of an input
refuse_same : (at n : ℕ) (test : Bool) {r r' : Read} → (test ≡ false → r ≡ r') → refuse at n test r ≡ refuse at n test r'
refuse_same at n true e = refl
refuse_same at n false e = e refl

-- a record that lies in the first m bytes
module _ (s : List ℕ) (m at : ℕ) (b : Before) where
  abbrev front : List ℕ
  front = take m s

  field : (at n : ℕ) → at + n ≤ m → number_at front at n ≡ number_at s at n
  field at n h = number_front s m at n h

  port_front : (n : ℕ) → at + 2 + n ≤ m → port_at front at n b ≡ port_at s at n b
  unfolding port_at rate_faulty parts_faulty port_of
  port_front n h =
      refuse_same at 4 (not (eqb n 6))
      (λ size.
      let e = eqb-true n 6 (not-false (eqb n 6) size) in
      rw (field (at + 4) 2 (omega arith), field (at + 4 + 2) 2 (omega arith)))

  link_front : (events : Events) (over kind next : ℕ) → at + 16 ≤ m → link_at front at b events over kind next ≡ link_at s at b events over kind next
  unfolding link_at ends_faulty parts_faulty ticks_at link_of
  link_front events over kind next h =
      rw (
        field (at + 4) 2 (omega arith),
        field (at + 4 + 2) 2 (omega arith),
        field (at + 4 + 4) 2 (omega arith),
        field (at + 4 + 6) 2 (omega arith),
        field (at + 8) 2 (omega arith),
        field (at + 8 + 2) 2 (omega arith),
        field (at + 12) 4 (omega arith),
      )

  kind_front : (n kind : ℕ) → at + 2 + n ≤ m → kind_at front at n kind b ≡ kind_at s at n kind b
  unfolding kind_at connection_at buffer_at fraction_at events_at
  kind_front n kind h = rw (port_front n h, connection, buffer, fraction)
    where
      connection : connection_at front at n b ≡ connection_at s at n b
      connection =
          refuse_same at 4 (not (eqb n 18))
          (λ size.
          let e = eqb-true n 18 (not-false (eqb n 18) size) in
          rw (field (at + 16) 4 (omega arith)) (link_front (events_at s (at + 16)) 1 2 (at + 20) (omega arith)))

      buffer : buffer_at front at n b ≡ buffer_at s at n b
      buffer = refuse_same at 4 (not (eqb n 14)) (λ size. link_front (0, 0) 1 3 (at + 16) (omega (arith, eqb-true n 14 (not-false (eqb n 14) size))))

      fraction : fraction_at front at n b ≡ fraction_at s at n b
      fraction =
          refuse_same at 4 (not (eqb n 22))
          (λ size.
          let e = eqb-true n 22 (not-false (eqb n 22) size) in
          rw (field (at + 16) 4 (omega arith), field (at + 20) 4 (omega arith))
          (link_front (events_at s (at + 16)) (number_at s (at + 20) 4) 4 (at + 24) (omega arith)))

  record_front : {least most next : ℕ} → Onward s at least most next → 4 ≤ least → next ≤ m → m ≤ length s → record_at front at b ≡ record_at s at b
  unfolding record_at length_faulty
  record_front {next = next} onward some inside within =
      let size = number_at s at 2 in
      let ends : at + 2 + size ≤ m = omega (arith, onward) in
      let least : 2 ≤ size = omega (arith, onward) in
      rw (length-take-le m s within, field at 2 (omega arith), field (at + 2) 2 (omega arith), lt-leb m at (omega arith), lt-leb (length s) at (omega arith))
      (rw (le-ltb (m - at) 2 (omega arith), le-ltb (length s - at) 2 (omega arith))
      (rw (le-ltb (m - at - 2) size (omega arith), le-ltb (length s - at - 2) size (omega arith), kind_front size (number_at s (at + 2) 2) ends)))

-- none is left behind the front
end_front : (s : List ℕ) (at : ℕ) (b : Before) → at ≤ length s → record_at (take at s) at b ≡ End
unfolding record_at
end_front s at b within = rw (length-take-le at s within, le-leb at at (omega arith))

-- ---- what stands before a record
one_more : (m n : ℕ) → m + 1 + n ≡ m + suc n
one_more m n = omega arith

module _ (b : Before) where
  with_none : with_table b (record { ports = []; links = [] }) ≡ b
  with_none = rw (add-zero b.ports, add-zero b.links, add-zero b.named, and-true b.port_may_come)

  with_first_port : (p : Port) (t : Table) → with_table (with_port b) t ≡ with_table b (record { ports = p ∷ t.ports; links = t.links })
  with_first_port p t = rw (one_more b.ports (port_count t), one_more b.named (port_count t))

  with_first_link : (l : Link) (t : Table) → with_table (with_link b) t ≡ with_table b (record { ports = t.ports; links = l ∷ t.links })
  with_first_link l t =
      rw (one_more b.links (link_count t), ne_eqb (suc (link_count t)) 0 (λ e. omega (arith, e)), and-false b.port_may_come)

-- ---- a fault behind a place
-- where the records from a place on have a fault, the bytes before it are read without one
record FaultFrom (s : List ℕ) (at : ℕ) (b : Before) (n : ℕ) (r : Reading) : Type 0 where
  least : 2 ≤ r.number
  most : r.number ≤ 11
  onward : at ≤ r.place
  near : r.place ≤ at + 8 * port_count r.table + 24 * link_count r.table
  within : r.place < length s
  front : read_from n (take r.place s) at b ≡ record { number = 0; place = 0; table = r.table }
  faulty : record_at s r.place (with_table b r.table) ≡ Refused r.number r.place

module _ (s : List ℕ) (n at : ℕ) (b : Before) where
  -- what a record without fault adds to the table that is read behind it
  record Adds (r : Read) (next : ℕ) (c : Before) : Type 0 where
    add : Table → Table
    is : (rest : ℕ → Before → Reading)
        → after rest b r ≡ record { number = (rest next c).number; place = (rest next c).place; table = add (rest next c).table }
    before : (t : Table) → with_table c t ≡ with_table b (add t)
    near : (t : Table) → next + 8 * port_count t + 24 * link_count t ≤ at + 8 * port_count (add t) + 24 * link_count (add t)

  adds_port : (p : Port) (next : ℕ) → Onward s at 8 8 next → Adds (PortRecord p next) next (with_port b)
  adds_port p next onward = record {
    add = λ t. record { ports = p ∷ t.ports; links = t.links };
    is = λ rest. refl;
    before = with_first_port b p;
    near = λ t. omega (arith, onward);
  }

  adds_link : (l : Link) (next : ℕ) → Onward s at 16 24 next → Adds (LinkRecord l next) next (with_link b)
  adds_link l next onward = record {
    add = λ t. record { ports = t.ports; links = l ∷ t.links };
    is = λ rest. refl;
    before = with_first_link b l;
    near = λ t. omega (arith, onward);
  }

  behind_record : {r : Read} {least most next : ℕ} {c : Before} → record_at s at b ≡ r → Onward s at least most next → 4 ≤ least → Adds r next c
      → FaultFrom s next c n (read_from n s next c)
      → FaultFrom s at b (suc n) (after (read_from n s) b r)
  unfolding read_from
  behind_record {next = next} {c} e onward some adds rest =
      let r = read_from n s next c in
      rw (adds.is (read_from n s)) (record {
        least = rest.least;
        most = rest.most;
        onward = omega (arith, onward, rest.onward);
        near = omega (arith, rest.near, adds.near r.table);
        within = rest.within;
        front = rw (record_front s r.place at b onward some rest.onward (omega (arith, rest.within)) ∙ e, adds.is, rest.front);
        faulty = rw (← adds.before r.table) rest.faulty;
      })

  after_faulty : (r : Read) → record_at s at b ≡ r → Accepted s at b r
      → ((next : ℕ) (c : Before) → at < next → next ≤ length s → (read_from n s next c).number ≢ 0 → FaultFrom s next c n (read_from n s next c))
      → (after (read_from n s) b r).number ≢ 0
      → FaultFrom s at b (suc n) (after (read_from n s) b r)
  unfolding read_from
  after_faulty (PortRecord p next) e a each f =
      let onward = a.onward in
      behind_record e onward (omega arith) (adds_port p next onward) (each next (with_port b) (omega (arith, onward)) onward.within f)
  after_faulty (LinkRecord l next) e a each f =
      let onward = a.onward in
      behind_record e onward (omega arith) (adds_link l next onward) (each next (with_link b) (omega (arith, onward)) onward.within f)
  after_faulty (Refused number place) e a each f = record {
    least = a.least;
    most = a.most;
    onward = omega (arith, a.here);
    near = omega (arith, a.here);
    within = omega (arith, a.here, a.within);
    front = rw (a.here, end_front s at b (omega (arith, a.within)));
    faulty = rw (with_none b, a.here) (rw a.here at e);
  }
  after_faulty End e a each f = absurd (f refl)

from_faulty : (s : List ℕ) (n at : ℕ) (b : Before) → at ≤ length s → length s < n + at → (read_from n s at b).number ≢ 0
    → FaultFrom s at b n (read_from n s at b)
unfolding read_from
from_faulty s zero at b inside enough f = absurd (omega arith)
from_faulty s (suc n) at b inside enough f =
    after_faulty s n at b (record_at s at b) refl (accepted s at b)
    (λ next c past within. from_faulty s n next c within (omega arith)) f

-- ---- no fault, no place
after_none : (s : List ℕ) (at : ℕ) (b : Before) (rest : ℕ → Before → Reading) (r : Read) → Accepted s at b r
    → ((next : ℕ) (c : Before) → (rest next c).number ≡ 0 → (rest next c).place ≡ 0)
    → (after rest b r).number ≡ 0
    → (after rest b r).place ≡ 0
after_none s at b rest (PortRecord p next) a each e = each next (with_port b) e
after_none s at b rest (LinkRecord l next) a each e = each next (with_link b) e
after_none s at b rest (Refused number place) a each e = absurd (omega (arith, a.least, e))
after_none s at b rest End a each e = refl

from_none : (n : ℕ) (s : List ℕ) (at : ℕ) (b : Before) → (read_from n s at b).number ≡ 0 → (read_from n s at b).place ≡ 0
unfolding read_from
from_none zero s at b e = absurd (omega (arith, e))
from_none (suc n) s at b e = after_none s at b (read_from n s) (record_at s at b) (accepted s at b) (λ next c. from_none n s next c) e

-- ---- a fault of an input
module _ (s : List ℕ) (b : Before) where
  fault_from : (read_on s b).number ≢ 0 → FaultFrom s 0 b (length s + 1) (read_on s b)
  unfolding read_on
  fault_from f = from_faulty s (length s + 1) 0 b (omega arith) (omega arith) f

  pub fault_listed : (read_on s b).number ≢ 0 → RecordFault (read_on s b).number
  fault_listed f = let r = fault_from f in record { least = r.least; most = r.most }

  pub fault_place : (read_on s b).number ≢ 0 → FaultPlace s b (read_on s b).number (read_on s b).place
  fault_place f =
      let r = fault_from f in
      let place = (read_on s b).place in
      let long = length-take-le place s (omega (arith, r.within)) in
      let front = sym (bound_decides_nothing (take place s) (length s + 1) b (omega (arith, long, r.within))) ∙ r.front in
      record {
        within = r.within;
        no_fault = rw front;
        faulty = rw front r.faulty;
      }

  pub no_fault_place : (read_on s b).number ≡ 0 → (read_on s b).place ≡ 0
  unfolding read_on
  no_fault_place e = from_none (length s + 1) s 0 b e

-- ---- a fault of a table
-- 12 where the records have no fault and none is a port
data TableCase (s : List ℕ) : Type 0 where
  none : (read_on s start).number ≡ 0 → ((read_table s).number ≡ 0) ⊎ ((read_table s).number ≡ 12) → TableCase s
  some : (read_on s start).number ≢ 0 → (read_table s).number ≡ (read_on s start).number → TableCase s

table_case : (s : List ℕ) → TableCase s
unfolding read_table
table_case s = decided (eqb r.number 0) (eqb (length r.table.ports) 0) refl refl
  where
    r : Reading
    r = read_on s start

    decided : (a b : Bool) → eqb r.number 0 ≡ a → eqb (length r.table.ports) 0 ≡ b → TableCase s
    decided true true e f = none (eqb-true r.number 0 e) (inr (rw (e, f)))
    decided true false e f = none (eqb-true r.number 0 e) (inl (rw (e, f) (eqb-true r.number 0 e)))
    decided false b e f = some (eqb-false r.number 0 e) (rw e)

module _ (s : List ℕ) where
  pub fault_number : (read_table s).number ≢ 0 → TableFault (read_table s).number
  fault_number f = by (table_case s)
    where
      by : TableCase s → TableFault (read_table s).number
      by (none e (inl z)) = absurd (f z)
      by (none e (inr z)) = omega (arith, z)
      by (some g e) = let from = fault_from s start g in omega (arith, e, from.least, from.most)

  pub table_place : 2 ≤ (read_table s).number → (read_table s).number ≤ 11 → FaultPlace s start (read_table s).number (read_table s).place
  unfolding read_table
  table_place l m = by (table_case s)
    where
      by : TableCase s → FaultPlace s start (read_table s).number (read_table s).place
      by (none e (inl z)) = absurd (omega (arith, z))
      by (none e (inr z)) = absurd (omega (arith, z))
      by (some g e) = rw e (fault_place s start g)

  pub table_no_place : ((read_table s).number < 2) ⊎ (11 < (read_table s).number) → (read_table s).place ≡ 0
  unfolding read_table
  table_no_place h = by (table_case s) h
    where
      by : TableCase s → ((read_table s).number < 2) ⊎ (11 < (read_table s).number) → (read_table s).place ≡ 0
      by (none e n) _ = no_fault_place s start e
      by (some g e) (inl l) = absurd (omega (arith, e, (fault_from s start g).least))
      by (some g e) (inr l) = absurd (omega (arith, e, (fault_from s start g).most))

  -- what is returned with the answer is no place either, whatever the room
  pub answer_no_place : (room : ℕ) → (read_table s).place ≡ 0 → answer_place s room ≡ 0
  unfolding answer_place
  answer_no_place room e = rw e (by (ltb room least_room))
    where
      by : (short : Bool) → ◌≡◌ {A = ℕ} (cond short 0 0) 0
      by true = refl
      by false = refl

  -- no fault lies behind the most ports and links that a table can have, so none far into a long input
  pub place_most : (read_table s).place ≤ 8 * most_ports + 24 * most_links
  unfolding read_table
  place_most = by (table_case s)
    where
      by : TableCase s → (read_table s).place ≤ 8 * most_ports + 24 * most_links
      by (none e n) = omega (arith, no_fault_place s start e)
      by (some g e) =
          let few = read_on_fits s start in
          omega (arith, (fault_from s start g).near, few.few_ports (omega arith), few.few_links (omega arith))
