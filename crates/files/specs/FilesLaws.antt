-- What a caller of `in_turn` knows of the files.
use Rattle.std.specs.Prelude.{ℕ, ◌≤◌, ◌≡◌, refl, Bool, true, false, cond, List, length, take}
use Rattle.std.proofs.Common.{sym, true≢false, arith, length-take-le}
use Rattle.files.specs.Files.{File, file_of, whole_file, stop_failed, stopped_of, all_whole, is_unread, in_turn, given, first_whole, second_whole, added_whole}
use Rattle.input.specs.Input.{has_failed, read_whole}
use Rattle.input.specs.ReadInto.{ReadInto}
use Rattle.input.specs.declared.Input.{Input}
use Rattle.files.specs.declared.InTurn.{InTurn}

pub given_front : (whole : Bool) (n : ℕ) (xs : List ℕ) → take (cond whole n 0) xs ≡ given whole (take n xs)
unfolding given
given_front true n xs = refl
given_front false n xs = refl

pub given_within : (whole : Bool) {n m : ℕ} → n ≤ m → cond whole n 0 ≤ m
given_within true h = h
given_within false h = omega arith

-- where a file and those before it were read whole, those before it were
before_whole : (before failed : Bool) (count : ℕ) → whole_file before failed count ≡ true → before ≡ true
unfolding whole_file
before_whole true failed count e = refl
before_whole false failed count e = absurd (true≢false (sym e))

-- where a file was read whole, no read of it failed
whole_unfailed : (before failed : Bool) (count : ℕ) → whole_file before failed count ≡ true → failed ≡ false
unfolding whole_file read_whole
whole_unfailed true true count e = absurd (true≢false (sym e))
whole_unfailed true false count e = refl
whole_unfailed false failed count e = absurd (true≢false (sym e))

stopped_whole : (whole failed : Bool) → all_whole (stopped_of whole failed) ≡ whole
stopped_whole true failed = refl
stopped_whole false failed = refl

stopped_unread : (whole failed : Bool) → (whole ≡ true → failed ≡ false) → is_unread (stopped_of whole failed) ≡ failed
stopped_unread true failed h = sym (h refl)
stopped_unread false true h = refl
stopped_unread false false h = refl

module _ (a b c : File) (whole : added_whole a b c ≡ true) where
  second_whole_lem : second_whole a b c ≡ true
  second_whole_lem = before_whole (second_whole a b c) c.failed (length c.bytes) whole

  first_whole_lem : first_whole a b c ≡ true
  first_whole_lem = before_whole (first_whole a b c) b.failed (length b.bytes) second_whole_lem

  none_failed : stop_failed (first_whole a b c) a.failed (second_whole a b c) b.failed c.failed ≡ false
  unfolding stop_failed
  none_failed = rw (second_whole_lem, first_whole_lem) (whole_unfailed (second_whole a b c) c.failed (length c.bytes) whole)

  -- then all bytes are given
  pub first_given : given (first_whole a b c) a.bytes ≡ a.bytes
  unfolding given
  first_given = rw first_whole_lem

  pub second_given : given (second_whole a b c) b.bytes ≡ b.bytes
  unfolding given
  second_given = rw second_whole_lem

  pub added_given : given (added_whole a b c) c.bytes ≡ c.bytes
  unfolding given
  added_given = rw whole

-- what is given of the files is what their join takes
pub record GivenOf (first second added : List ℕ) (a b c : File) (r : InTurn) : Type 0 where
  pub first_is : take r.first first ≡ given (first_whole a b c) a.bytes
  pub second_is : take r.second second ≡ given (second_whole a b c) b.bytes
  pub added_is : take r.added added ≡ given (added_whole a b c) c.bytes
  pub whole_is : all_whole r.stopped ≡ added_whole a b c
  pub failed_is : is_unread r.stopped ≡ stop_failed (first_whole a b c) a.failed (second_whole a b c) b.failed c.failed

pub given_of : {first second added : List ℕ} (a b c : Input) {r : InTurn} → ReadInto first a → ReadInto second b → ReadInto added c
    → r ≡ in_turn a b c
    → GivenOf first second added (file_of first a) (file_of second b) (file_of added c) r
unfolding in_turn
given_of {first} {second} {added} a b c f s d is =
    let n = length-take-le a.count first f.within in
    let m = length-take-le b.count second s.within in
    let k = length-take-le c.count added d.within in
    let one = whole_file true (has_failed a.end) a.count in
    let two = whole_file one (has_failed b.end) b.count in
    let three = whole_file two (has_failed c.end) c.count in
    rw is (record {
      first_is = rw n (given_front one a.count first);
      second_is = rw (n, m) (given_front two b.count second);
      added_is = rw (n, m, k) (given_front three c.count added);
      whole_is = rw (n, m, k) (stopped_whole three _);
      failed_is = rw (n, m) (stopped_unread three _ (rw (n, m, k) at (none_failed (file_of first a) (file_of second b) (file_of added c))));
    })
