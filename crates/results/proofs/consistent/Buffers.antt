-- The records of the buffers so far stand at the front of the answer buffer.
use Prim.Native.Nat.{ℕ, ◌+◌, ◌*◌, ◌≤◌, ◌<◌}
use mathlib.Core.Path.{◌≡◌, ap, ◌∙◌}
use mathlib.Core.Bool.{true, false}
use mathlib.Core.List.{List, append-nil}
use native.Mathlib.Numerals.{add-one}
use native.Mathlib.Omega.{arith}
use lib.ListN.{length}
use Rattle.specification.specs.Bytes.{bytes, Written, encode, buffer_answer}
use Rattle.specification.specs.Table.{Table, link_count, link, is_buffer}
use Rattle.specification.specs.declared.Link.{Link}
use Rattle.specification.specs.Answers.{buffer_records}
use Rattle.results.specs.declared.kept.Kept.{Kept}
use Rattle.results.specs.Kept.{size_at, timing_of}
use Rattle.records.specs.WrittenLaws.{part_at, put_back}
use Rattle.results.proofs.Appended.{Appended, appended_none, appended_on, appended_off}

buffer_length : (number size : ℕ) → length (buffer_answer number size) ≤ 14
unfolding buffer_answer encode bytes
buffer_length number size = omega arith

pub record BuffersWritten (t : Table) (weights : List ℕ) (kept : List Kept) (ys₀ ys : List ℕ) (at k : ℕ) : Type 0 where
  pub so_far : Appended 14 (link_count t) (buffer_records t (timing_of t weights kept) k) ys₀ ys at k

module _ {t : Table} {weights : List ℕ} {kept : List Kept} {ys₀ : List ℕ} where
  pub buffers_none : BuffersWritten t weights kept ys₀ ys₀ 0 0
  unfolding buffer_records
  buffers_none = record { so_far = appended_none }

  module _ {ys : List ℕ} {at k : ℕ} (f : BuffersWritten t weights kept ys₀ ys at k) (l : k < link_count t) where
    pub buffers_on : {part : List ℕ} {d m : ℕ} {x : Link}
        → 14 * link_count t ≤ length ys₀
        → x ≡ link t k
        → is_buffer x ≡ true
        → d ≡ size_at x weights kept
        → Written (buffer_answer k d) (part_at ys at) part m
        → BuffersWritten t weights kept ys₀ (put_back ys at part) (at + m) (k + 1)
    unfolding buffer_records
    buffers_on fits same buffer size v =
        let is : is_buffer (link t k) ≡ true = rw (← same) buffer in
        let fewest = size ∙ ap (λ (y : Link). size_at y weights kept) same in
        record { so_far = rw (add-one k, is, ← fewest) (rw (add-one k) at (appended_on f.so_far l fits (buffer_length _ _) v)) }

    pub buffers_off : {x : Link} → x ≡ link t k → is_buffer x ≡ false → BuffersWritten t weights kept ys₀ ys at (k + 1)
    unfolding buffer_records
    buffers_off same connection =
        let not : is_buffer (link t k) ≡ false = rw (← same) connection in
        record { so_far = rw (add-one k, not, append-nil) (rw (add-one k) at (appended_off f.so_far l)) }
