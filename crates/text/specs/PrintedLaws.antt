-- The lines of records one behind another are the lines of each.
use Prim.Native.Nat.{ℕ, zero, suc, ◌+◌, ◌-◌, ◌≤◌, ◌<◌, ◌^◌}
use Rattle.std.specs.Prelude.{◌≡◌, Bool, true, false, List, [], ◌++◌, ltb, leb}
use Rattle.std.proofs.Math.Path.{refl}
use Rattle.std.proofs.Common.{append_assoc, append-nil, add_assoc}
use native.Mathlib.Omega.{arith}
use Rattle.std.proofs.Math.ListN.{length, length-append}
use borrow.Author.Tests.{ltb-true, ltb-false, leb-true, leb-false, lt-ltb, le-ltb, le-leb, lt-leb}
use Rattle.specification.specs.Bytes.{encode, number_at}
use Rattle.records.specs.NumberLaws.{number_behind, encode_length, length_field, kind_field}
use Rattle.text.specs.Printed.{has_line, items_text, port_at, buffer_at, step_at, connection_at, loop_at, cycle_at, floor_at, has_period, is_record, record_line, record_lines}

-- ---- what stands in front of the bytes only moves the place
pub items_behind : (item item' : ℕ → List ℕ) (ahead : ℕ)
    → ((at : ℕ) → item (ahead + at) ≡ item' at)
    → (size at n : ℕ) → items_text item size (ahead + at) n ≡ items_text item' size at n
unfolding items_text
items_behind item item' ahead h size at zero = refl
items_behind item item' ahead h size at (suc n) = rw (h at, add_assoc, items_behind item item' ahead h size (at + size) n)

same_test : (b : Bool) {c : Bool} → (b ≡ true → c ≡ true) → (b ≡ false → c ≡ false) → c ≡ b
same_test true h k = h refl
same_test false h k = k refl

less_behind : (ahead m n : ℕ) → ltb (ahead + m) (ahead + n) ≡ ltb m n
less_behind ahead m n =
    same_test (ltb m n) (λ e. lt-ltb (ahead + m) (ahead + n) (omega (arith, ltb-true m n e))) (λ e. le-ltb (ahead + m) (ahead + n) (omega (arith, ltb-false m n e)))

most_behind : (ahead m n : ℕ) → leb (ahead + m) (ahead + n) ≡ leb m n
most_behind ahead m n =
    same_test (leb m n) (λ e. le-leb (ahead + m) (ahead + n) (omega (arith, leb-true m n e))) (λ e. lt-leb (ahead + m) (ahead + n) (omega (arith, leb-false m n e)))

module _ (pre s : List ℕ) where
  pub step_behind : (at : ℕ) → step_at (pre ++ s) (length pre + at) ≡ step_at s at
  unfolding step_at
  step_behind at = simp (add_assoc, number_behind)

  pub connection_behind : (at : ℕ) → connection_at (pre ++ s) (length pre + at) ≡ connection_at s at
  unfolding connection_at
  connection_behind at = simp number_behind

  pub steps_behind : (at n : ℕ) → items_text (step_at (pre ++ s)) 4 (length pre + at) n ≡ items_text (step_at s) 4 at n
  steps_behind at n = items_behind (step_at (pre ++ s)) (step_at s) (length pre) step_behind 4 at n

  pub connections_behind : (at n : ℕ) → items_text (connection_at (pre ++ s)) 2 (length pre + at) n ≡ items_text (connection_at s) 2 at n
  connections_behind at n = items_behind (connection_at (pre ++ s)) (connection_at s) (length pre) connection_behind 2 at n

  line_behind : (at number : ℕ) → record_line (pre ++ s) (length pre + at) number ≡ record_line s at number
  unfolding record_line port_at buffer_at loop_at cycle_at floor_at
  line_behind at number = simp (add_assoc, number_behind, steps_behind, connections_behind)

  record_behind : (at : ℕ) → is_record (pre ++ s) (length pre + at) ≡ is_record s at
  unfolding is_record has_period
  record_behind at = simp (add_assoc, number_behind, length-append, less_behind, most_behind)

  pub lines_behind : (n at number : ℕ) → record_lines (pre ++ s) n (length pre + at) number ≡ record_lines s n at number
  unfolding record_lines
  lines_behind zero at number = refl
  lines_behind (suc n) at number =
      let next = at + 2 + number_at s at 2 in
      let e : length pre + at + 2 + number_at s at 2 ≡ length pre + next = omega arith in
      rw (record_behind, line_behind, number_behind, e, lines_behind n next (number + 1))

-- ---- records one behind another
-- the bytes are k records; their lines, the first of this number, are these
pub record Prints (s : List ℕ) (number k : ℕ) (lines : List ℕ) : Type 0 where
  pub followed : (post : List ℕ) (n : ℕ) → record_lines (s ++ post) (k + n) 0 number ≡ lines ++ record_lines post n 0 (number + k)
  pub counts : k ≤ length s

pub prints_none : {number : ℕ} → Prints [] number 0 []
prints_none {number} = record {
  followed = λ post n. (let e : 0 + n ≡ n = omega arith in let f : number + 0 ≡ number = omega arith in rw (e, f));
  counts = omega arith;
}

infixl 60 ◌⨾◌
pub ◌⨾◌ : {s u lines more : List ℕ} {number k l : ℕ}
    → Prints s number k lines
    → Prints u (number + k) l more
    → Prints (s ++ u) number (k + l) (lines ++ more)
◌⨾◌ {s} {u} {lines} {more} {number} {k} {l} h g = record {
  followed = λ post n. rw (append_assoc s u post, add_assoc k l n, h.followed, g.followed, append_assoc lines, add_assoc number k l);
  counts = omega (arith, length-append s u, h.counts, g.counts);
}

no_bytes : (n number : ℕ) → record_lines [] n 0 number ≡ []
unfolding record_lines is_record
no_bytes zero number = refl
no_bytes (suc n) number = refl

pub prints_all : {s lines : List ℕ} {k : ℕ} → Prints s 0 k lines → record_lines s (length s) 0 0 ≡ lines
prints_all {s} {lines} {k} h =
    let n = length s - k in
    let e : k + n ≡ length s = omega (arith, h.counts) in
    rw (append-nil, e, no_bytes n (0 + k), append-nil) at (h.followed [] n)

-- a record of a kind that has a line, whatever follows it
pub record HasLine (kind : ℕ) (body : List ℕ) (number : ℕ) (line : List ℕ) : Type 0 where
  pub known : kind < 256 ^ 2
  pub fits : 2 + length body < 256 ^ 2
  pub form : has_line kind (2 + length body) ≡ true
  pub period : (post : List ℕ) → has_period (encode kind body ++ post) 0 ≡ true
  pub is : (post : List ℕ) → record_line (encode kind body ++ post) 0 number ≡ line

module _ {kind : ℕ} {body : List ℕ} {number : ℕ} {line : List ℕ} (h : HasLine kind body number line) where
  module _ (post : List ℕ) where
    abbrev s : List ℕ
    s = encode kind body ++ post

    size : number_at s 0 2 ≡ 2 + length body
    size = length_field kind body post h.fits

    long : length s ≡ 4 + length body + length post
    long = simp (length-append, encode_length)

    is_one : is_record s 0 ≡ true
    unfolding is_record
    is_one =
        rw (long, lt-ltb 3 (4 + length body + length post) (omega arith), size)
        (rw (le-leb (2 + (2 + length body)) (4 + length body + length post) (omega arith), kind_field kind body post h.known)
        (rw (h.form, h.period post)))

    one_line : (n : ℕ) → record_lines s (1 + n) 0 number ≡ line ++ record_lines post n 0 (number + 1)
    unfolding record_lines
    one_line n =
        let e : 1 + n ≡ suc n = omega arith in
        let next : 0 + 2 + number_at s 0 2 ≡ length (encode kind body) + 0 = omega (arith, size, encode_length kind body) in
        rw (e, is_one, h.is post, next, lines_behind (encode kind body) post n 0 (number + 1))

  pub prints_record : Prints (encode kind body) number 1 line
  prints_record = record { followed = one_line; counts = omega (arith, encode_length kind body) }
