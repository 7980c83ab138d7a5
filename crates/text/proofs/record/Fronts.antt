-- The record at the front of the bytes, by its kind.
use Prim.Native.Nat.{ℕ, ◌+◌, ◌-◌, ◌/◌, ◌<◌}
use mathlib.Core.Path.{◌≡◌, refl}
use mathlib.Core.Bool.{Bool, true, false, cond}
use mathlib.Core.List.{List}
use native.Mathlib.Omega.{arith}
use Rattle.std.proofs.lemmas.Bool.Decides.{nat_tests}
use borrow.Author.Tests.{lt-ltb, le-ltb, le-leb, lt-leb}
use lib.Dec.{ltb, leb}
use lib.ListN.{length, take, drop, length-drop}
use lib.Seq.{length-take-le}
use Rattle.std.specs.Prelude.{Option, None, Some}
use Rattle.std.specs.Borrow.{Bor}
use Rattle.specification.specs.Bytes.{number_at}
use Rattle.text.specs.Printed.{has_line, has_period, is_record, record_line, port_at, buffer_at, loop_at, cycle_at, floor_at}
use Rattle.text.specs.Record.{line_of, IsPort, IsRead, IsSize, Reads}
use Rattle.text.specs.declared.record.Record.{Record}
use Rattle.text.specs.declared.record.Record.TheVariants.{Buffer, Loop, Cycle, Floor}
use Rattle.text.proofs.Items.{steps_local, connections_local, items_part}

neither : (b : Bool) → cond b false false ≡ false
neither true = refl
neither false = refl

-- no record: fewer bytes than a length and a kind, a length that does not cover the kind or reaches too far, and no line
pub none_short : (s : List ℕ) → length s < 4 → is_record s 0 ≡ false
unfolding is_record
none_short s h = rw (le-ltb 3 (length s) (omega arith))

pub none_too_long : (s : List ℕ) → length s < 2 + number_at s 0 2 → is_record s 0 ≡ false
unfolding is_record
none_too_long s h = rw (lt-leb (2 + number_at s 0 2) (length s) h, neither)

pub none_without_line : (s : List ℕ) → has_line (number_at s 2 2) (number_at s 0 2) ≡ false → is_record s 0 ≡ false
unfolding is_record
none_without_line s e = simp (e, neither)

pub none_without_kind : (s : List ℕ) → number_at s 0 2 < 2 → is_record s 0 ≡ false
unfolding has_line
none_without_kind s h = none_without_line s (grind (arith, nat_tests))

module _ {s : List ℕ} {size : ℕ} (h : IsSize s size) where
  reads : {r : Record} → has_line (number_at s 2 2) size ≡ true → has_period s 0 ≡ true → ((number : ℕ) → line_of r number ≡ record_line s 0 number) → Reads s r
  unfolding is_record
  reads f p l =
      let a : ltb 3 (length s) ≡ true = lt-ltb 3 (length s) (omega arith) in
      let b : leb (2 + number_at s 0 2) (length s) ≡ true = le-leb (2 + number_at s 0 2) (length s) (omega arith) in
      record { is = rw (a, b, rw h.is at f, p); line = l }

  pub read_port : {r : Record} → number_at s 2 2 ≡ 16 → size ≡ 22 → (0 < number_at s 12 4) × ((number : ℕ) → line_of r number ≡ port_at s 0 number) → Reads s r
  unfolding has_line has_period record_line
  read_port k e p = reads (rw (k, e)) (rw (k, lt-ltb 0 (number_at s 12 4) p.0)) (λ number. rw k (p.1 number))

  -- a port whose b is 0 is no record
  pub read_port_or_none : (port : Option Record) → number_at s 2 2 ≡ 16 → size ≡ 22 → IsPort s port → IsRead s port
  unfolding is_record has_period
  read_port_or_none None k e z =
      let p : has_period s 0 ≡ false = rw (k, z) in
      simp (p, neither)
  read_port_or_none (Some r) k e p = read_port k e p

  pub read_buffer : number_at s 2 2 ≡ 17 → size ≡ 12 → Reads s (Buffer (number_at s 4 2) (number_at s 6 8))
  unfolding has_line has_period record_line buffer_at line_of
  read_buffer k e = reads (rw (k, e)) (rw k) (λ number. rw k)

  module _ (part : Bor (List ℕ)) (e : part.now ≡ take (2 + size - 4) (drop 4 s)) where
    long : length part.now ≡ number_at s 0 2 - 2
    long = rw (e, length-take-le (2 + size - 4) (drop 4 s) (omega (arith, length-drop 4 s))) (omega arith)

    pub read_loop : number_at s 2 2 ≡ 18 → Reads s (Loop part)
    unfolding has_line has_period record_line loop_at line_of
    read_loop k =
        let items = items_part steps_local s 4 (2 + size - 4) ((number_at s 0 2 - 2) / 4) (omega arith) (omega arith) in
        reads (rw (k, le-leb 2 size h.starts)) (rw k) (λ number. rw (k, long, items, ← e))

    pub read_cycle : number_at s 2 2 ≡ 19 → Reads s (Cycle part)
    unfolding has_line has_period record_line cycle_at line_of
    read_cycle k =
        let items = items_part connections_local s 4 (2 + size - 4) ((number_at s 0 2 - 2) / 2) (omega arith) (omega arith) in
        reads (rw (k, le-leb 2 size h.starts)) (rw k) (λ number. rw (k, long, items, ← e))

  pub read_floor : number_at s 2 2 ≡ 20 → size ≡ 4 → Reads s (Floor (number_at s 4 2))
  unfolding has_line has_period record_line floor_at line_of
  read_floor k e = reads (rw (k, e)) (rw k) (λ number. rw k)
