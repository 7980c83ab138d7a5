-- What is known of a record that was read.
use Rattle.std.specs.Prelude.{ℕ, ◌+◌, ◌*◌, ◌-◌, ◌≤◌, ◌<◌, ◌≡◌, Bool, true, ◌||◌, cond, List, length, ltb, eqb}
use Rattle.std.proofs.Math.Path.{refl}
use Rattle.std.proofs.Common.{sym, ◌∙◌, true≢false, pos_of_ne-zero}
use Rattle.std.proofs.Math.Bool.{false, not}
use native.Mathlib.Omega.{arith}
use Rattle.std.proofs.Math.Dec.{leb}
use borrow.Author.Tests.{ltb-false, leb-true, leb-false, eqb-false, eqb-true, not-false}
use Rattle.specification.specs.Bytes.{number_at}
use Rattle.specification.specs.Table.{most_ports, most_links, most_part, most_ticks, most_events, most_over}
use Rattle.table.specs.WellFormed.{PartFits, PortFits, LinkFits, OneSided}
use Rattle.specification.specs.Reading.{
  forward,
  back,
  refuse,
  length_faulty,
  part_faulty,
  parts_faulty,
  rate_faulty,
  ends_faulty,
  amount_faulty,
  events_faulty,
  delays_faulty,
  ticks_at,
  events_at,
  port_of,
  link_of,
  port_at,
  link_at,
  connection_at,
  buffer_at,
  fraction_at,
  kind_at,
  record_at,
}
use Rattle.specification.specs.declared.Ticks.{Ticks}
use Rattle.specification.specs.declared.Events.{Events}
use Rattle.specification.specs.declared.Port.{Port}
use Rattle.specification.specs.declared.Link.{Link}
use Rattle.specification.specs.declared.Before.{Before}
use Rattle.specification.specs.declared.Read.{Read}
use Rattle.specification.specs.declared.Read.TheVariants.{PortRecord, LinkRecord, Refused, End}

-- the place behind a record is where its length says, and within the table; the record has no fewer and no more bytes than these
pub record Onward (s : List ℕ) (at least most next : ℕ) : Type 0 where
  pub sized : next ≡ at + 2 + number_at s at 2
  pub past : at + least ≤ next
  pub near : next ≤ at + most
  pub within : next ≤ length s

-- a port record: there was room for it, it could come here, and its rate is within the limits
pub record PortAccepted (s : List ℕ) (at : ℕ) (before : Before) (p : Port) (next : ℕ) : Type 0 where
  pub onward : Onward s at 8 8 next
  pub kind : eqb (number_at s (at + 2) 2) 1 ≡ true
  pub room : before.ports < most_ports
  pub may_come : before.port_may_come ≡ true
  pub fits : PortFits p

-- a connection or buffer: there was room for it, and it is within the limits
pub record LinkAccepted (s : List ℕ) (at : ℕ) (before : Before) (l : Link) (next : ℕ) : Type 0 where
  pub onward : Onward s at 16 24 next
  pub kind : eqb (number_at s (at + 2) 2) 1 ≡ false
  pub room : before.links < most_links
  pub fits : LinkFits before.named l
  pub sided : OneSided l

-- a refusal has one of the numbers 2 to 11, and the place where the record begins, which is within the table
pub record Fault (s : List ℕ) (at n place : ℕ) : Type 0 where
  pub least : 2 ≤ n
  pub most : n ≤ 11
  pub here : place ≡ at
  pub within : at < length s

-- none is left
pub record Ended (s : List ℕ) (at : ℕ) : Type 0 where
  pub behind : length s ≤ at

-- what reading a record tells, by its outcome
abbrev pub Accepted : List ℕ → ℕ → Before → Read → Type 0
Accepted s at before (PortRecord p next) = PortAccepted s at before p next
Accepted s at before (LinkRecord l next) = LinkAccepted s at before l next
Accepted s at before (Refused n place) = Fault s at n place
Accepted s at before End = Ended s at

-- neither of two tests finds a fault
record Neither (a b : Bool) : Type 0 where
  left : a ≡ false
  right : b ≡ false

neither : (a b : Bool) → (a || b) ≡ false → Neither a b
neither true b h = absurd (true≢false h)
neither false b h = record { left = refl; right = h }

-- a length without fault
pub record Whole (s : List ℕ) (at : ℕ) : Type 0 where
  pub least : 2 ≤ number_at s at 2
  pub ends : at + 2 + number_at s at 2 ≤ length s

pub whole : (s : List ℕ) (at : ℕ) → length_faulty s at ≡ false → Whole s at
unfolding length_faulty
whole s at h =
    let outer = neither (ltb (length s - at) 2) (ltb (number_at s at 2) 2 || ltb (length s - at - 2) (number_at s at 2)) h in
    let inner = neither (ltb (number_at s at 2) 2) (ltb (length s - at - 2) (number_at s at 2)) outer.right in
    let left = ltb-false (length s - at) 2 outer.left in
    let low = ltb-false (number_at s at 2) 2 inner.left in
    let high = ltb-false (length s - at - 2) (number_at s at 2) inner.right in
    record { least = low; ends = omega arith }

part_fits : (x : ℕ) → part_faulty x ≡ false → PartFits x
unfolding part_faulty
part_fits x h =
    let both = neither (eqb x 0) (ltb most_part x) h in
    record { least = pos_of_ne-zero (eqb-false x 0 both.left); most = ltb-false most_part x both.right }

record PartsFit (s : List ℕ) (at : ℕ) : Type 0 where
  num : PartFits (number_at s at 2)
  den : PartFits (number_at s (at + 2) 2)

parts_fit : (s : List ℕ) (at : ℕ) → parts_faulty s at ≡ false → PartsFit s at
unfolding parts_faulty
parts_fit s at h =
    let both = neither (part_faulty (number_at s at 2)) (part_faulty (number_at s (at + 2) 2)) h in
    record { num = part_fits (number_at s at 2) both.left; den = part_fits (number_at s (at + 2) 2) both.right }

-- a rate whose numerator is 0 has the denominator 0; another has the parts of a ratio
rate_fits : (s : List ℕ) (at : ℕ) → rate_faulty s at ≡ false → PortFits (port_of s at)
unfolding rate_faulty port_of
rate_fits s at h = decided (eqb (number_at s at 2) 0) refl h
  where
    decided : (none : Bool) → eqb (number_at s at 2) 0 ≡ none → cond none (not (eqb (number_at s (at + 2) 2) 0)) (parts_faulty s at) ≡ false
        → PortFits (record { num = number_at s at 2; den = number_at s (at + 2) 2 })
    decided true none even =
        let num = eqb-true (number_at s at 2) 0 none in
        let den = eqb-true (number_at s (at + 2) 2) 0 (not-false (eqb (number_at s (at + 2) 2) 0) even) in
        record { num_most = omega arith; den_most = omega arith; rated = λ l. omega arith; unrated = λ e. den }
    decided false some parts =
        let fit = parts_fit s at parts in
        record {
          num_most = fit.num.most;
          den_most = fit.den.most;
          rated = λ l. fit.den.least;
          unrated = λ e. absurd (omega (arith, fit.num.least));
        }

record EndsFit (s : List ℕ) (at named : ℕ) : Type 0 where
  from : number_at s at 2 < named
  to : number_at s (at + 2) 2 < named

ends_fit : (s : List ℕ) (at named : ℕ) → ends_faulty s at named ≡ false → EndsFit s at named
unfolding ends_faulty
ends_fit s at named h =
    let both = neither (leb named (number_at s at 2)) (leb named (number_at s (at + 2) 2)) h in
    record { from = leb-false named (number_at s at 2) both.left; to = leb-false named (number_at s (at + 2) 2) both.right }

record AmountFits (most forward back : ℕ) : Type 0 where
  above : forward ≤ most
  below : back ≤ most

amount_fits : (most forward back : ℕ) → amount_faulty most forward back ≡ false → AmountFits most forward back
unfolding amount_faulty
amount_fits most forward back h =
    let both = neither (ltb most forward) (ltb most back) h in
    record { above = ltb-false most forward both.left; below = ltb-false most back both.right }

record EventsFit (events : Events) (over : ℕ) : Type 0 where
  least : 0 < over
  most : over ≤ most_over
  amount : AmountFits (most_events * over) events.0 events.1

events_fit : (events : Events) (over : ℕ) → events_faulty events over ≡ false → EventsFit events over
unfolding events_faulty
events_fit events over h =
    let within = amount_faulty (most_events * over) events.0 events.1 in
    let outer = neither (eqb over 0) (ltb most_over over || within) h in
    let inner = neither (ltb most_over over) within outer.right in
    record {
      least = pos_of_ne-zero (eqb-false over 0 outer.left);
      most = ltb-false most_over over inner.left;
      amount = amount_fits (most_events * over) events.0 events.1 inner.right;
    }

-- where no delay has a fault, neither has the denominator
pub delays_over : (ticks : Ticks) (events : Events) (over : ℕ) {faulty : Bool} → faulty ≡ delays_faulty ticks events over → faulty ≡ false
    → over ≤ most_over
unfolding delays_faulty
delays_over ticks events over e none =
    (events_fit events over (neither (amount_faulty most_ticks ticks.0 ticks.1) (events_faulty events over) (sym e ∙ none)).right).most

-- what a kind of link says of its events
record OfKind (events : Events) (over kind : ℕ) : Type 0 where
  one : events.0 * events.1 ≡ 0
  none : eqb kind 3 ≡ true → events ≡ (0, 0)
  whole : eqb kind 4 ≡ false → over ≡ 1
  least : 2 ≤ kind
  most : kind ≤ 4

-- two's complement gives one amount
one_side : (v : ℕ) → forward v * back v ≡ 0
unfolding forward back
one_side v = decided (ltb v 2147483648)
  where
    decided : (test : Bool) → cond test v 0 * cond test 0 (4294967296 - v) ≡ 0
    decided true = omega arith
    decided false = omega arith

module _ (s : List ℕ) (at : ℕ) (before : Before) where
  -- `Accepted` by a name of its own, so that the read record is inferred
  record Tells (r : Read) : Type 0 where
    told : Accepted s at before r

  -- what holds of each refusal, and behind each test, holds of the chain of tests
  behind : (n : ℕ) → Fault s at n at → (test : Bool) (r : Read) → (test ≡ false → Tells r) → Tells (refuse at n test r)
  behind n number true r f = record { told = number }
  behind n number false r f = f refl

  either : (test : Bool) (r r' : Read) → (test ≡ true → Tells r) → (test ≡ false → Tells r') → Tells (cond test r r')
  either true r r' t f = t refl
  either false r r' t f = f refl

  sized : (n m : ℕ) → not (eqb n m) ≡ false → n ≡ m
  sized n m size = eqb-true n m (not-false (eqb n m) size)

  tells_port : (n : ℕ) → number_at s at 2 ≡ n → at + 2 + n ≤ length s → eqb (number_at s (at + 2) 2) 1 ≡ true → Tells (port_at s at n before)
  unfolding port_at port_of
  tells_port n is ends kind = behind 4 (omega arith) _ _ (λ size. behind 5 (omega arith) _ _ (λ may. behind 6 (omega arith) _ _ (λ room. behind 8 (omega arith) _ _ (λ rate. record { told = told size may room rate }))))
    where
      told : not (eqb n 6) ≡ false → not before.port_may_come ≡ false → leb most_ports before.ports ≡ false
          → rate_faulty s (at + 4) ≡ false
          → PortAccepted s at before (port_of s (at + 4)) (at + 8)
      told size may room rate = record {
        onward = omega (arith, sized n 6 size);
        kind = kind;
        room = leb-false most_ports before.ports room;
        may_come = not-false before.port_may_come may;
        fits = rate_fits s (at + 4) rate;
      }

  tells_link : (events : Events) (over kind next : ℕ) → Onward s at 16 24 next → eqb (number_at s (at + 2) 2) 1 ≡ false → OfKind events over kind
      → Tells (link_at s at before events over kind next)
  unfolding link_at link_of delays_faulty ticks_at
  tells_link events over kind next onward no_port_lem of_kind =
      behind 7 (omega (arith, onward)) _ _ (λ room. behind 9 (omega (arith, onward)) _ _ (λ ends. behind 10 (omega (arith, onward)) _ _ (λ parts. behind 11 (omega (arith, onward)) _ _ (λ amounts. record { told = told room ends parts amounts }))))
    where
      ticks : Ticks
      ticks = ticks_at s (at + 12)

      told : leb most_links before.links ≡ false → ends_faulty s (at + 4) before.named ≡ false → parts_faulty s (at + 8) ≡ false
          → delays_faulty ticks events over ≡ false
          → LinkAccepted s at before (link_of s (at + 4) ticks events over kind) next
      told room ends parts amounts =
          let e = ends_fit s (at + 4) before.named ends in
          let p = parts_fit s (at + 8) parts in
          let both = neither (amount_faulty most_ticks ticks.0 ticks.1) (events_faulty events over) amounts in
          let t = amount_fits most_ticks ticks.0 ticks.1 both.left in
          let v = events_fit events over both.right in
          let num : at + 4 + 4 ≡ at + 8 = omega arith in
          let den : at + 4 + 6 ≡ at + 8 + 2 = omega arith in
          record {
            onward = onward;
            kind = no_port_lem;
            room = leb-false most_links before.links room;
            fits = record {
              from = e.from;
              to = e.to;
              num = rw num p.num;
              den = rw den p.den;
              ticks_forward_lem = t.above;
              ticks_back_lem = t.below;
              over_least = v.least;
              over_most = v.most;
              events_forward = v.amount.above;
              events_back = v.amount.below;
              kind_least = of_kind.least;
              kind_most = of_kind.most;
            };
            sided = record {
              ticks = one_side (number_at s (at + 12) 4);
              events = of_kind.one;
              no_events = of_kind.none;
              whole_events = of_kind.whole;
            };
          }

  -- kinds 2, 3 and 4
  connection_kind : OfKind (events_at s (at + 16)) 1 2
  unfolding events_at
  connection_kind = record {
    one = one_side (number_at s (at + 16) 4);
    none = λ e. absurd (true≢false (sym e));
    whole = λ _. refl;
    least = omega arith;
    most = omega arith;
  }

  buffer_kind : OfKind (0, 0) 1 3
  buffer_kind = record { one = refl; none = λ _. refl; whole = λ _. refl; least = omega arith; most = omega arith }

  fraction_kind : OfKind (events_at s (at + 16)) (number_at s (at + 20) 4) 4
  unfolding events_at
  fraction_kind = record {
    one = one_side (number_at s (at + 16) 4);
    none = λ e. absurd (true≢false (sym e));
    whole = λ e. absurd (true≢false e);
    least = omega arith;
    most = omega arith;
  }

  tells_kind : (n : ℕ) → number_at s at 2 ≡ n → at + 2 + n ≤ length s → Tells (kind_at s at n (number_at s (at + 2) 2) before)
  unfolding kind_at connection_at buffer_at fraction_at
  tells_kind n is ends =
      either (eqb (number_at s (at + 2) 2) 1) _ _ (tells_port n is ends)
      (λ kind. either (eqb (number_at s (at + 2) 2) 2) _ _ (λ _. behind 4 (omega arith) (not (eqb n 18)) _ (λ size. tells_link (events_at s (at + 16)) 1 2 (at + 20) (omega (arith, sized n 18 size)) kind connection_kind))
      (λ _. either (eqb (number_at s (at + 2) 2) 3) _ _ (λ _. behind 4 (omega arith) (not (eqb n 14)) _ (λ size. tells_link (0, 0) 1 3 (at + 16) (omega (arith, sized n 14 size)) kind buffer_kind))
      (λ _. either (eqb (number_at s (at + 2) 2) 4) _ (Refused 3 at) (λ _. behind 4 (omega arith) (not (eqb n 22)) _ (λ size. tells_link (events_at s (at + 16)) (number_at s (at + 20) 4) 4 (at + 24) (omega (arith, sized n 22 size)) kind fraction_kind))
      (λ _. record { told = omega arith }))))

  -- reading a record tells this
  pub accepted : Accepted s at before (record_at s at before)
  unfolding record_at
  accepted = tells.told
    where
      tells : Tells (record_at s at before)
      tells =
          either (leb (length s) at) End _ (λ none. record { told = record { behind = leb-true (length s) at none } })
          (λ some.
          let within = leb-false (length s) at some in
          behind 2 (omega (arith, within)) _ _ (λ size. tells_kind (number_at s at 2) refl (whole s at size).ends))
