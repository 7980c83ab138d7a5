-- The records of the ports so far stand at the front of the answer buffer.
use Prim.Native.Nat.{ℕ, ◌+◌, ◌*◌, ◌≤◌, ◌<◌}
use mathlib.Core.List.{List}
use native.Mathlib.Numerals.{add-one}
use native.Mathlib.Omega.{arith}
use lib.ListN.{length, get_or}
use Rattle.specification.specs.Bytes.{bytes, Written, encode, port_answer}
use Rattle.specification.specs.Table.{Table, port_count}
use Rattle.specification.specs.Answers.{port_records}
use Rattle.results.specs.Kept.{component_at, a_at, b_at, start_at, TableNumbers, timing_of}
use Rattle.results.specs.declared.kept.Kept.{Kept}
use Rattle.results.specs.Sizes.{b_is}
use Rattle.records.specs.WrittenLaws.{part_at, put_back}
use Rattle.results.proofs.Appended.{Appended, appended_none, appended_on}

port_length : (component weight a b start : ℕ) → length (port_answer component weight a b start) ≤ 24
unfolding port_answer encode bytes
port_length component weight a b start = omega arith

pub record PortsWritten (t : Table) (weights : List ℕ) (kept : List Kept) (ys₀ ys : List ℕ) (at p : ℕ) : Type 0 where
  pub so_far : Appended 24 (port_count t) (port_records (timing_of t weights kept) p) ys₀ ys at p

module _ {t : Table} {weights : List ℕ} {kept : List Kept} {ys₀ : List ℕ} where
  pub ports_none : PortsWritten t weights kept ys₀ ys₀ 0 0
  unfolding port_records
  ports_none = record { so_far = appended_none }

  pub ports_on : {ys part : List ℕ} {at p m : ℕ}
      → TableNumbers t weights kept
      → 24 * port_count t ≤ length ys₀
      → PortsWritten t weights kept ys₀ ys at p
      → p < port_count t
      → Written (port_answer (component_at kept p) (get_or weights p 0) (a_at kept p) (b_at kept p) (start_at kept p)) (part_at ys at) part m
      → PortsWritten t weights kept ys₀ (put_back ys at part) (at + m) (p + 1)
  unfolding port_records
  ports_on {p} numbers fits f l v = record {
    so_far = rw (add-one p, b_is (numbers.each p (record { below = l }))) (rw (add-one p) at (appended_on f.so_far l fits (port_length _ _ _ _ _) v));
  }
