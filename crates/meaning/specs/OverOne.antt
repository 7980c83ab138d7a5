-- A record of kind 2, and one of kind 4 with the same fields and the denominator 1, are refused alike or mean the same.
use Rattle.std.specs.Prelude.{ℕ, ◌+◌, ◌≤◌, ◌≡◌, refl, Bool, true, false, List, ◌++◌, leb}
use Rattle.std.proofs.Common.{sym, ◌∙◌, append_assoc, arith, take_at}
use Rattle.std.proofs.Math.ListN.{length, length-append}
use Rattle.specification.specs.Bytes.{bytes, encode, number_at}
use Rattle.specification.specs.Table.{most_links}
use Rattle.specification.specs.Reading.{refuse, ends_faulty, parts_faulty, delays_faulty, ticks_at, events_at, link_of, link_at, connection_at, fraction_at, kind_at, record_at}
use Rattle.specification.specs.Meaning.{SameMeaning, SameRead, both_refused, both_links}
use Rattle.specification.specs.declared.Ticks.{Ticks}
use Rattle.specification.specs.declared.Events.{Events}
use Rattle.specification.specs.declared.Link.{Link}
use Rattle.specification.specs.declared.Before.{Before}
use Rattle.specification.specs.declared.Read.TheVariants.{LinkRecord}
use Rattle.records.specs.NumberLaws.{number_in, number_front}
use Rattle.encoding.specs.RecordBack.{body_at, kind_read}

-- the same tests, and then links that mean the same
tests_alike : {l m : Link} (at next next' : ℕ) (a b c d : Bool) → SameMeaning l m
    → SameRead (refuse at 7 a (refuse at 9 b (refuse at 10 c (refuse at 11 d (LinkRecord l next)))))
    (refuse at 7 a (refuse at 9 b (refuse at 10 c (refuse at 11 d (LinkRecord m next')))))
tests_alike at next next' true b c d s = both_refused 7 at
tests_alike at next next' false true c d s = both_refused 9 at
tests_alike at next next' false false true d s = both_refused 10 at
tests_alike at next next' false false false true s = both_refused 11 at
tests_alike at next next' false false false false s = both_links next next' s

kinds_alike : (s : List ℕ) (at : ℕ) (b : Before) (events : Events) (next next' : ℕ)
    → SameRead (link_at s at b events 1 2 next) (link_at s at b events 1 4 next')
unfolding link_at link_of
kinds_alike s at b events next next' =
    tests_alike at next next' (leb most_links b.links) (ends_faulty s (at + 4) b.named) (parts_faulty s (at + 8)) (delays_faulty ticks events 1) same
  where
    ticks : Ticks
    ticks = ticks_at s (at + 12)

    same : SameMeaning (link_of s (at + 4) ticks events 1 2) (link_of s (at + 4) ticks events 1 4)
    same = record {
      from = refl;
      to = refl;
      num = refl;
      den = refl;
      ticks = refl;
      buffer = refl;
      events_forward = refl;
      events_back = refl;
    }

module _ (xs body ys : List ℕ) (b : Before) (size : length body ≡ 16) where
  abbrev whole : List ℕ
  whole = xs ++ (encode 2 body ++ ys)

  abbrev over : List ℕ
  over = xs ++ (encode 4 (body ++ bytes 4 1) ++ ys)

  -- a field of the body, whatever stands behind
  field_in : (more : List ℕ) (at n : ℕ) → at + n ≤ 16 → number_at (body ++ more) at n ≡ number_at body at n
  field_in more at n h = sym (number_front (body ++ more) 16 at n h) ∙ rw (take_at body more 16 size)

  -- so it is the same in both records
  field : (at n : ℕ) {place : ℕ} → place ≡ length xs + (4 + at) → at + n ≤ 16 → number_at over place n ≡ number_at whole place n
  field at n e h =
      body_at xs 4 (body ++ bytes 4 1) ys at n e
      ∙ rw (append_assoc body (bytes 4 1) ys) (field_in (bytes 4 1 ++ ys) at n h)
      ∙ sym (body_at xs 2 body ys at n e ∙ field_in ys at n h)

  denominator : number_at over (length xs + 20) 4 ≡ 1
  denominator =
      body_at xs 4 (body ++ bytes 4 1) ys 16 4 (omega arith)
      ∙ rw (append_assoc body (bytes 4 1) ys) (number_in body ys 4 (sym size) (omega arith))

  abbrev at : ℕ
  at = length xs

  fields_same : (events : Events) → link_at over at b events 1 4 (at + 24) ≡ link_at whole at b events 1 4 (at + 24)
  unfolding link_at ends_faulty parts_faulty ticks_at link_of
  fields_same events =
      rw (
        field 0 2 {place = at + 4} (omega arith) (omega arith),
        field 2 2 {place = at + 4 + 2} (omega arith) (omega arith),
        field 4 2 {place = at + 4 + 4} (omega arith) (omega arith),
        field 6 2 {place = at + 4 + 6} (omega arith) (omega arith),
        field 4 2 {place = at + 8} (omega arith) (omega arith),
        field 6 2 {place = at + 8 + 2} (omega arith) (omega arith),
        field 8 4 {place = at + 12} (omega arith) (omega arith),
      )

  events_same : events_at over (at + 16) ≡ events_at whole (at + 16)
  unfolding events_at
  events_same = rw (field 12 4 {place = at + 16} (omega arith) (omega arith))

  pub over_one : SameRead (record_at whole at b) (record_at over at b)
  unfolding kind_at connection_at fraction_at bytes
  over_one =
      let long : length (body ++ bytes 4 1) ≡ 20 = omega (arith, length-append body (bytes 4 1), size) in
      rw (
        kind_read xs 2 body ys b (omega arith) (omega (arith, size)),
        kind_read xs 4 (body ++ bytes 4 1) ys b (omega arith) (omega (arith, long)),
        size,
        long,
        denominator,
        events_same,
        fields_same (events_at whole (at + 16)),
      )
      (kinds_alike whole at b (events_at whole (at + 16)) (at + 20) (at + 24))
