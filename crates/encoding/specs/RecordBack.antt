-- A port or link that was written as bytes is read back, whatever stands before and behind its bytes.
use Rattle.std.specs.Prelude.{ℕ, ◌+◌, ◌*◌, ◌-◌, ◌^◌, ◌≤◌, ◌<◌, ◌≡◌, ◌≢◌, Bool, true, false, cond, not, ◌||◌, eqb}
use Rattle.std.proofs.Math.Path.{refl}
use Rattle.std.proofs.Common.{sym, ◌∙◌, arith, add-zero, pos_of_ne-zero, mul-le-mul_right}
use mathlib.Core.List.{List, [], ◌++◌}
use Rattle.std.proofs.Math.ListN.{length, length-append}
use borrow.Author.Tests.{lt-ltb, le-ltb, lt-leb, ne_eqb, eqb-true, eqb-false}
use Rattle.specification.specs.Bytes.{number_at, bytes, encode}
use Rattle.specification.specs.Encoding.{signed_word, encode_port, link_fields, connection_fields, encode_link}
use Rattle.specification.specs.Table.{most_ports, most_links, most_part, most_ticks, most_events, most_over, is_buffer}
use Rattle.specification.specs.Reading.{
  forward,
  back,
  length_faulty,
  part_faulty,
  parts_faulty,
  rate_faulty,
  ends_faulty,
  amount_faulty,
  events_faulty,
  delays_faulty,
  ticks_at,
  events_at,
  port_of,
  link_of,
  port_at,
  link_at,
  connection_at,
  buffer_at,
  fraction_at,
  kind_at,
  record_at,
}
use Rattle.specification.specs.declared.Events.{Events}
use Rattle.specification.specs.declared.Port.{Port}
use Rattle.specification.specs.declared.Link.{Link}
use Rattle.specification.specs.declared.Before.{Before}
use Rattle.specification.specs.declared.Read.TheVariants.{PortRecord, LinkRecord}
use Rattle.records.specs.NumberLaws.{number_behind, number_bytes, number_in, length_field, kind_field, body_field, encode_length}
use Rattle.table.specs.WellFormed.{PartFits, PortFits, LinkFits, OneSided}
use Rattle.encoding.specs.EncodingLaws.{buffer_bytes, fraction_bytes, connection_bytes, link_size}

-- ---- the tests find no fault
part_good : (x : ℕ) → PartFits x → part_faulty x ≡ false
unfolding part_faulty
part_good x h = rw (ne_eqb x 0 (λ e. omega (arith, h.least, e)), le-ltb most_part x h.most)

amount_good : (most forward back : ℕ) → forward ≤ most → back ≤ most → amount_faulty most forward back ≡ false
unfolding amount_faulty
amount_good most forward back f b = rw (le-ltb most forward f, le-ltb most back b)

events_good : (events : Events) (over : ℕ) → 0 < over → over ≤ most_over → events.0 ≤ most_events * over → events.1 ≤ most_events * over
    → events_faulty events over ≡ false
unfolding events_faulty
events_good events over least most f b =
    rw (ne_eqb over 0 (λ e. omega (arith, least, e)), le-ltb most_over over most, amount_good (most_events * over) events.0 events.1 f b)

-- a rate of 0/0, or of two good parts
rate_good : (s : List ℕ) (at : ℕ) (p : Port) → PortFits p → number_at s at 2 ≡ p.num → number_at s (at + 2) 2 ≡ p.den → rate_faulty s at ≡ false
unfolding rate_faulty parts_faulty
rate_good s at p fits num den = rw (num, den) (decided (eqb p.num 0) refl)
  where
    decided : (none : Bool) → eqb p.num 0 ≡ none → cond none (not (eqb p.den 0)) (part_faulty p.num || part_faulty p.den) ≡ false
    decided true e = rw (fits.unrated (eqb-true p.num 0 e))
    decided false e =
        let some = pos_of_ne-zero (eqb-false p.num 0 e) in
        rw (part_good p.num (record { least = some; most = fits.num_most }), part_good p.den (record { least = fits.rated some; most = fits.den_most }))

-- ---- two's complement
record SignedBack (f b : ℕ) : Type 0 where
  small : signed_word f b < 256 ^ 4
  forward_back : forward (signed_word f b) ≡ f
  back_back : back (signed_word f b) ≡ b

signed_back : (f b : ℕ) → f ≤ most_ticks → b ≤ most_ticks → f * b ≡ 0 → SignedBack f b
unfolding signed_word forward back
signed_back f b up down one = decided (eqb b 0) refl
  where
    decided : (x : Bool) → eqb b 0 ≡ x → SignedBack f b
    decided true e =
        let none = eqb-true b 0 e in
        record {
          small = rw e (omega arith);
          forward_back = rw (e, lt-ltb f 2147483648 (omega arith));
          back_back = rw (e, lt-ltb f 2147483648 (omega arith)) (omega arith);
        }
    decided false e =
        let some = pos_of_ne-zero (eqb-false b 0 e) in
        let none : f ≡ 0 = omega (arith, mul-le-mul_right f some) in
        let high = le-ltb (4294967296 - b) 2147483648 (omega arith) in
        record {
          small = rw e (omega arith);
          forward_back = rw (e, high) (omega arith);
          back_back = rw (e, high) (omega arith);
        }

-- ---- a record behind other bytes: its kind decides how it is read, and its body's numbers stand behind four bytes
module _ (xs : List ℕ) (kind : ℕ) (body ys : List ℕ) where
  abbrev input : List ℕ
  input = xs ++ (encode kind body ++ ys)

  pub body_at : (at n : ℕ) {place : ℕ} → place ≡ length xs + (4 + at) → number_at input place n ≡ number_at (body ++ ys) at n
  body_at at n e = rw (e, number_behind) (body_field kind body ys at n)

  pub kind_read : (b : Before) → kind < 256 ^ 2 → 2 + length body < 256 ^ 2
      → record_at input (length xs) b ≡ kind_at input (length xs) (2 + length body) kind b
  unfolding record_at length_faulty
  kind_read b k h =
      let size : number_at input (length xs) 2 ≡ 2 + length body = rw (add-zero (length xs)) at (number_behind xs (encode kind body ++ ys) 0 2 ∙ length_field kind body ys h) in
      let kind_is : number_at input (length xs + 2) 2 ≡ kind = number_behind xs (encode kind body ++ ys) 2 2 ∙ kind_field kind body ys k in
      let long : length input ≡ length xs + (4 + length body + length ys) = omega (arith, length-append xs (encode kind body ++ ys), length-append (encode kind body) ys, encode_length kind body) in
      rw (
        size,
        kind_is,
        lt-leb (length input) (length xs) (omega arith),
        le-ltb (length input - length xs) 2 (omega arith),
        le-ltb (2 + length body) 2 (omega arith),
        le-ltb (length input - length xs - 2) (2 + length body) (omega arith),
      )

-- ---- a port
pub port_back : (xs ys : List ℕ) (p : Port) (b : Before) → PortFits p → b.ports < most_ports → b.port_may_come ≡ true
    → record_at (xs ++ (encode_port p ++ ys)) (length xs) b ≡ PortRecord p (length xs + 8)
unfolding encode_port bytes kind_at port_at port_of
port_back xs ys p b fits room may =
    let body = bytes 2 p.num ++ bytes 2 p.den in
    let s = xs ++ (encode 1 body ++ ys) in
    let num : number_at s (length xs + 4) 2 ≡ p.num = body_at xs 1 body ys 0 2 (omega arith) ∙ number_bytes 2 (bytes 2 p.den ++ ys) (omega (arith, fits.num_most)) in
    let den : number_at s (length xs + 4 + 2) 2 ≡ p.den = body_at xs 1 body ys 2 2 (omega arith) ∙ number_in (bytes 2 p.num) ys 2 refl (omega (arith, fits.den_most)) in
    kind_read xs 1 body ys b (omega arith) (omega arith)
    ∙ rw (may, lt-leb most_ports b.ports room, rate_good s (length xs + 4) p fits num den, num, den)

-- ---- a connection or buffer
-- the fields that both have stand behind a record's length and kind
record FieldsAt (s : List ℕ) (at : ℕ) (l : Link) : Type 0 where
  from : number_at s (at + 4) 2 ≡ l.from
  to : number_at s (at + 4 + 2) 2 ≡ l.to
  num : number_at s (at + 8) 2 ≡ l.num
  den : number_at s (at + 8 + 2) 2 ≡ l.den
  ticks : ticks_at s (at + 12) ≡ l.ticks

link_read : (s : List ℕ) (at : ℕ) (b : Before) (l : Link) (next : ℕ) → FieldsAt s at l → LinkFits b.named l → b.links < most_links
    → link_at s at b l.events l.over l.kind next ≡ LinkRecord l next
unfolding link_at ends_faulty parts_faulty delays_faulty link_of
link_read s at b l next f fits room =
    let n : at + 4 + 4 ≡ at + 8 = omega arith in
    let d : at + 4 + 6 ≡ at + 8 + 2 = omega arith in
    rw (
      n,
      d,
      f.from,
      f.to,
      f.num,
      f.den,
      f.ticks,
      lt-leb most_links b.links room,
      lt-leb b.named l.from fits.from,
      lt-leb b.named l.to fits.to,
      part_good l.num fits.num,
      part_good l.den fits.den,
      amount_good most_ticks l.ticks.0 l.ticks.1 fits.ticks_forward_lem fits.ticks_back_lem,
      events_good l.events l.over fits.over_least fits.over_most fits.events_forward fits.events_back,
    )

-- a kind that is neither 3 nor 4
two_left : {n : ℕ} → 2 ≤ n → n ≤ 4 → n ≢ 3 → n ≢ 4 → n ≡ 2
two_left least most d e = omega arith

module _ (xs : List ℕ) (l : Link) (b : Before) (fits : LinkFits b.named l) (few : b.named ≤ most_ports) (sided : OneSided l) where
  -- whatever more the record has
  fields_at : (kind : ℕ) (more ys : List ℕ) → FieldsAt (xs ++ (encode kind (link_fields l ++ more) ++ ys)) (length xs) l
  unfolding link_fields bytes ticks_at
  fields_at kind more ys =
      let body = link_fields l ++ more in
      let ticks = signed_back l.ticks.0 l.ticks.1 fits.ticks_forward_lem fits.ticks_back_lem sided.ticks in
      let from = bytes 2 l.from in
      let to = bytes 2 l.to in
      let num = bytes 2 l.num in
      let den = bytes 2 l.den in
      let rest = bytes 4 (signed_word l.ticks.0 l.ticks.1) ++ more ++ ys in
      let word = body_at xs kind body ys 8 4 {place = length xs + 12} (omega arith) ∙ number_in (from ++ to ++ num ++ den) (more ++ ys) 4 refl ticks.small in
      record {
        from = body_at xs kind body ys 0 2 (omega arith) ∙ number_bytes 2 (to ++ num ++ den ++ rest) (omega (arith, fits.from));
        to = body_at xs kind body ys 2 2 (omega arith) ∙ number_in from (num ++ den ++ rest) 2 refl (omega (arith, fits.to));
        num = body_at xs kind body ys 4 2 (omega arith) ∙ number_in (from ++ to) (den ++ rest) 2 refl (omega (arith, fits.num.most));
        den = body_at xs kind body ys 6 2 (omega arith) ∙ number_in (from ++ to ++ num) rest 2 refl (omega (arith, fits.den.most));
        ticks = rw (word, ticks.forward_back, ticks.back_back);
      }

  -- the events of a connection stand behind them, whatever more there is
  events_at_lem : (kind : ℕ) (more ys : List ℕ) → events_at (xs ++ (encode kind (connection_fields l ++ more) ++ ys)) (length xs + 16) ≡ l.events
  unfolding connection_fields link_fields bytes events_at
  events_at_lem kind more ys =
      let body = connection_fields l ++ more in
      let up : l.events.0 ≤ most_ticks = omega (arith, fits.events_forward, fits.over_most) in
      let down : l.events.1 ≤ most_ticks = omega (arith, fits.events_back, fits.over_most) in
      let events = signed_back l.events.0 l.events.1 up down sided.events in
      let word = body_at xs kind body ys 12 4 {place = length xs + 16} (omega arith) ∙ number_in (link_fields l) (more ++ ys) 4 refl events.small in
      rw (word, events.forward_back, events.back_back)

  -- read with its events, denominator and kind, it is the link
  of_kind : {s : List ℕ} {events : Events} {over kind : ℕ} (next : ℕ) → FieldsAt s (length xs) l → b.links < most_links → events ≡ l.events
      → over ≡ l.over
      → kind ≡ l.kind
      → link_at s (length xs) b events over kind next ≡ LinkRecord l next
  of_kind {s} next f room events over kind = rw (events, over, kind) (link_read s (length xs) b l next f fits room)

  buffer_back : (ys : List ℕ) → is_buffer l ≡ true → b.links < most_links
      → record_at (xs ++ (buffer_bytes l ++ ys)) (length xs) b ≡ LinkRecord l (length xs + 16)
  unfolding link_fields bytes kind_at buffer_at
  buffer_back ys is room =
      let kind = eqb-true l.kind 3 is in
      kind_read xs 3 (link_fields l) ys b (omega arith) (omega arith)
      ∙ of_kind (length xs + 16) (fields_at 3 [] ys) room (sym (sided.no_events is)) (sym (sided.whole_events (ne_eqb l.kind 4 (λ e. omega (arith, e))))) (sym kind)

  connection_back : (ys : List ℕ) → is_buffer l ≡ false → eqb l.kind 4 ≡ false → b.links < most_links
      → record_at (xs ++ (connection_bytes l ++ ys)) (length xs) b ≡ LinkRecord l (length xs + 20)
  unfolding connection_fields link_fields bytes kind_at connection_at
  connection_back ys no_buffer no_fraction room =
      let kind : l.kind ≡ 2 = two_left fits.kind_least fits.kind_most (eqb-false l.kind 3 no_buffer) (eqb-false l.kind 4 no_fraction) in
      kind_read xs 2 (connection_fields l) ys b (omega arith) (omega arith)
      ∙ of_kind (length xs + 20) (fields_at 2 (bytes 4 (signed_word l.events.0 l.events.1)) ys) room (events_at_lem 2 [] ys) (sym (sided.whole_events no_fraction)) (sym kind)

  fraction_back : (ys : List ℕ) → is_buffer l ≡ false → eqb l.kind 4 ≡ true → b.links < most_links
      → record_at (xs ++ (fraction_bytes l ++ ys)) (length xs) b ≡ LinkRecord l (length xs + 24)
  unfolding connection_fields link_fields bytes kind_at fraction_at
  fraction_back ys no_buffer is room =
      let kind = eqb-true l.kind 4 is in
      let over = bytes 4 l.over in
      let body = connection_fields l ++ over in
      let word = body_at xs 4 body ys 16 4 {place = length xs + 20} (omega arith) ∙ number_in (connection_fields l) ys 4 refl (omega (arith, fits.over_most)) in
      kind_read xs 4 body ys b (omega arith) (omega arith)
      ∙ of_kind (length xs + 24) (fields_at 4 (bytes 4 (signed_word l.events.0 l.events.1) ++ over) ys) room (events_at_lem 4 over ys) word (sym kind)

pub link_back : (xs ys : List ℕ) (l : Link) (b : Before) → LinkFits b.named l → b.named ≤ most_ports → OneSided l → b.links < most_links
    → record_at (xs ++ (encode_link l ++ ys)) (length xs) b ≡ LinkRecord l (length xs + link_size l)
unfolding encode_link
link_back xs ys l b fits few sided room = decided (is_buffer l) (eqb l.kind 4) refl refl
  where
    decided : (x y : Bool) → is_buffer l ≡ x → eqb l.kind 4 ≡ y
        → record_at (xs ++ (cond x (buffer_bytes l) (cond y (fraction_bytes l) (connection_bytes l)) ++ ys)) (length xs) b ≡ LinkRecord l (length xs + cond x 16 (cond y 24 20))
    decided true y is _ = buffer_back xs l b fits few sided ys is room
    decided false true d is = fraction_back xs l b fits few sided ys d is room
    decided false false d e = connection_back xs l b fits few sided ys d e room
