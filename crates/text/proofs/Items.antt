-- The items of a record: steps of four bytes, connections of two.
use Prim.Native.Nat.{ℕ, zero, suc, ◌+◌, ◌*◌, ◌/◌, ◌≤◌, ◌<◌}
use mathlib.Core.Path.{◌≡◌, refl, sym, ap, ◌∙◌}
use mathlib.Core.List.{List, [], ◌++◌}
use native.Mathlib.Omega.{arith}
use lib.ListN.{length, take, drop, length-append}
use lib.Seq.{length-take-le, take_at}
use Rattle.std.proofs.Common.{take-append-drop}
use Rattle.std.proofs.Math.Nat.{div-eq_of_lt}
use Rattle.records.specs.NumberLaws.{number_front}
use Rattle.text.specs.Printed.{items_text, step_at, connection_at}
use Rattle.text.specs.PrintedLaws.{items_behind, step_behind, connection_behind}
use Rattle.text.specs.declared.writer.Writer.{Writer}
use Rattle.text.proofs.writer.Part.{WroteUpTo}

-- an item depends on its own bytes alone
pub record Local (item : List ℕ → ℕ → List ℕ) (size : ℕ) : Type 0 where
  pub behind : (pre s : List ℕ) (at : ℕ) → item (pre ++ s) (length pre + at) ≡ item s at
  pub front : (s : List ℕ) (m at : ℕ) → at + size ≤ m → item (take m s) at ≡ item s at
  pub one_more : (n : ℕ) → (size + n) / size ≡ suc (n / size)

step_front : (s : List ℕ) (m at : ℕ) → at + 4 ≤ m → step_at (take m s) at ≡ step_at s at
unfolding step_at
step_front s m at h = rw (number_front s m at 2 (omega arith), number_front s m (at + 2) 2 (omega arith))

connection_front : (s : List ℕ) (m at : ℕ) → at + 2 ≤ m → connection_at (take m s) at ≡ connection_at s at
unfolding connection_at
connection_front s m at h = rw (number_front s m at 2 h)

pub steps_local : Local step_at 4
steps_local = record { behind = step_behind; front = step_front; one_more = λ n. omega arith }

pub connections_local : Local connection_at 2
connections_local = record { behind = connection_behind; front = connection_front; one_more = λ n. omega arith }

module _ {item : List ℕ → ℕ → List ℕ} {size : ℕ} (l : Local item size) where
  -- what all items of the bytes print
  abbrev whole : List ℕ → List ℕ
  whole s = items_text (item s) size 0 (length s / size)

  items_front : (s : List ℕ) (m at n : ℕ) → at + size * n ≤ m → items_text (item (take m s)) size at n ≡ items_text (item s) size at n
  unfolding items_text
  items_front s m at zero h = refl
  items_front s m at (suc n) h = rw (l.front s m at (omega arith), items_front s m (at + size) n (omega arith))

  items_drop : (s : List ℕ) (k n : ℕ) → k ≤ length s → items_text (item s) size k n ≡ items_text (item (drop k s)) size 0 n
  items_drop s k n h =
      let e : length (take k s) ≡ k = length-take-le k s h in
      let z : k + 0 ≡ k = omega arith in
      let b : items_text (item (take k s ++ drop k s)) size (length (take k s) + 0) n ≡ items_text (item (drop k s)) size 0 n = items_behind _ (item (drop k s)) (length (take k s)) (l.behind (take k s) (drop k s)) size 0 n in
      rw (take-append-drop k s, e, z) at b

  -- n items from a place on are those of the part that begins there
  pub items_part : (s : List ℕ) (k m n : ℕ) → k ≤ length s → size * n ≤ m → items_text (item s) size k n ≡ items_text (item (take m (drop k s))) size 0 n
  items_part s k m n h f = items_drop s k n h ∙ sym (items_front (drop k s) m 0 n (omega arith))

  module _ (x r : List ℕ) (long : length x ≡ size) where
    first_item : item (x ++ r) 0 ≡ item x 0
    first_item = sym (l.front (x ++ r) size 0 (omega arith)) ∙ ap (λ (s : List ℕ). item s 0) (take_at x r size long)

    more_items : (n : ℕ) → items_text (item (x ++ r)) size size n ≡ items_text (item r) size 0 n
    more_items n =
        let z : length x + 0 ≡ size = omega arith in
        rw z at (items_behind (item (x ++ r)) (item r) (length x) (l.behind x r) size 0 n)

    whole_more : whole (x ++ r) ≡ item x 0 ++ whole r
    unfolding items_text
    whole_more =
        let n : length (x ++ r) / size ≡ suc (length r / size) = rw (length-append x r, long) (l.one_more (length r)) in
        let z : 0 + size ≡ size = omega arith in
        rw (n, z) (rw (first_item, more_items (length r / size)))

  whole_none : (s : List ℕ) → length s < size → whole s ≡ []
  unfolding items_text
  whole_none s h = rw (div-eq_of_lt h)

-- the rest is an item and the items behind it, or too short for one
module _ {item : List ℕ → ℕ → List ℕ} {size : ℕ} (l : Local item size) {text : List ℕ} (rest : List ℕ) {w₀ w : Writer} (p : WroteUpTo text (items_text (item rest) size 0 (length rest / size)) w₀ w) where
  pub next_item : (x r : List ℕ) → rest ≡ x ++ r → length x ≡ size → WroteUpTo text (item x 0 ++ items_text (item r) size 0 (length r / size)) w₀ w
  next_item x r e long = rw (e, whole_more l x r long) at p

  pub no_item : length rest < size → WroteUpTo text [] w₀ w
  no_item f = rw (whole_none l rest f) at p
