-- The bytes of the first elements of a list: how many, and written at the front of a buffer.
use Prim.Native.Nat.{ℕ, zero, suc, ◌+◌, ◌≤◌, ◌<◌}
use Rattle.std.specs.Prelude.{◌≡◌, length, take, get_or, map, sum}
use Rattle.std.specs.List.{range_with_len}
use Rattle.std.proofs.lemmas.List.FromFn.{sum_by-map-range_with_len_more}
use Rattle.std.proofs.Math.Path.{refl}
use mathlib.Core.List.{List, [], ◌∷◌, ◌++◌, flat_map, append-nil, append_assoc}
use Rattle.std.proofs.Common.{ap, ◌∙◌, add-one, arith, take_all}
use Rattle.std.proofs.Math.ListN.{length-append}
use Rattle.specification.specs.Bytes.{Written}
use Rattle.records.specs.WrittenLaws.{written_length, part_at, put_back, written_append}

module _ {A : Type 0} (enc : A → List ℕ) (d : A) where
  -- the bytes of the first k
  abbrev bytes_of : List A → ℕ → List ℕ
  bytes_of xs k = flat_map enc (take k xs)

  bytes_more : (xs : List A) (k : ℕ) → k < length xs → bytes_of xs (suc k) ≡ bytes_of xs k ++ enc (get_or xs k d)
  unfolding flat_map
  bytes_more [] k h = absurd (omega arith)
  bytes_more (x ∷ xs) zero h = append-nil (enc x)
  bytes_more (x ∷ xs) (suc k) h = rw (bytes_more xs k (omega arith), append_assoc (enc x) (bytes_of xs k) (enc (get_or xs k d)))

  bytes_within_lem : (xs : List A) (k : ℕ) → k < length xs → length (bytes_of xs k) + length (enc (get_or xs k d)) ≤ length (flat_map enc xs)
  unfolding flat_map
  bytes_within_lem [] k h = absurd (omega arith)
  bytes_within_lem (x ∷ xs) zero h = omega (arith, length-append (enc x) (flat_map enc xs))
  bytes_within_lem (x ∷ xs) (suc k) h =
      omega (arith, length-append (enc x) (flat_map enc xs), length-append (enc x) (bytes_of xs k), bytes_within_lem xs k (omega arith))

  -- the lengths of the first k, one by one
  abbrev pub sizes_of : List A → ℕ → List ℕ
  sizes_of xs k = map (λ i. length (enc (get_or xs i d))) (range_with_len 0 k)

  sizes_are : (xs : List A) (k : ℕ) → k ≤ length xs → sum (sizes_of xs k) ≡ length (bytes_of xs k)
  unfolding flat_map
  sizes_are xs zero h = refl
  sizes_are xs (suc k) h =
      let more = sum_by-map-range_with_len_more (λ (n : ℕ). n) (λ i. length (enc (get_or xs i d))) 0 k k (omega arith) in
      let on = bytes_more xs k (omega arith) in
      (rw (add-one k) at more) ∙ omega (arith, sizes_are xs k (omega arith), ap length on, length-append (bytes_of xs k) (enc (get_or xs k d)))

  pub sizes_all : (xs : List A) (k : ℕ) → k ≡ length xs → sum (sizes_of xs k) ≡ length (flat_map enc xs)
  sizes_all xs k all = rw (take_all k xs (omega arith)) at (sizes_are xs k (omega arith))

  -- so many bytes are those of the first k
  pub record Counted (xs : List A) (size k : ℕ) : Type 0 where
    pub within : k ≤ length xs
    pub is : size ≡ length (bytes_of xs k)

  -- the first k are written, and there is room for all
  pub record WrittenFirst (xs : List A) (ys₀ ys : List ℕ) (at k : ℕ) : Type 0 where
    pub within : k ≤ length xs
    pub room : length (flat_map enc xs) ≤ length ys₀
    pub same : length ys ≡ length ys₀
    pub inside : at ≤ length ys
    pub written : Written (bytes_of xs k) ys₀ ys at

module _ {A : Type 0} {enc : A → List ℕ} {d : A} {xs : List A} where
  pub counted_none : Counted enc d xs 0 0
  unfolding flat_map
  counted_none = record { within = omega arith; is = refl }

  module _ {size k : ℕ} (c : Counted enc d xs size k) where
    pub counted_most : {n : ℕ} → k < length xs → n ≡ length (enc (get_or xs k d)) → size + n ≤ length (flat_map enc xs)
    counted_most h e = omega (arith, c.is, bytes_within_lem enc d xs k h)

    pub counted_on : {n : ℕ} → k < length xs → n ≡ length (enc (get_or xs k d)) → Counted enc d xs (size + n) (k + 1)
    counted_on h e = record {
      within = omega arith;
      is = rw (add-one k, bytes_more enc d xs k h) (omega (arith, c.is, length-append (bytes_of enc d xs k) (enc (get_or xs k d))));
    }

    pub counted_all : length xs ≤ k → size ≡ length (flat_map enc xs)
    counted_all h = rw (take_all k xs h) at c.is

  pub written_none : {ys : List ℕ} → length (flat_map enc xs) ≤ length ys → WrittenFirst enc d xs ys ys 0 0
  unfolding flat_map
  written_none room = record {
    within = omega arith;
    room = room;
    same = refl;
    inside = omega arith;
    written = record { contents = refl; counted = refl };
  }

  module _ {ys₀ ys : List ℕ} {at k : ℕ} (w : WrittenFirst enc d xs ys₀ ys at k) where
    -- there is room for the next
    pub next_room : k < length xs → at + length (enc (get_or xs k d)) ≤ length ys
    next_room h = omega (arith, w.room, w.same, w.written.counted, bytes_within_lem enc d xs k h)

    pub written_on : {part : List ℕ} {m : ℕ} → k < length xs → Written (enc (get_or xs k d)) (part_at ys at) part m
        → WrittenFirst enc d xs ys₀ (put_back ys at part) (at + m) (k + 1)
    written_on {part} {m} h v =
        let both = written_append w.written v in
        let long = length-append (bytes_of enc d xs k) (enc (get_or xs k d)) in
        let fits = bytes_within_lem enc d xs k h in
        let same = written_length both (omega (arith, w.room)) in
        record {
          within = omega arith;
          room = w.room;
          same = same;
          inside = omega (arith, both.counted, w.room);
          written = rw (add-one k, bytes_more enc d xs k h) both;
        }

    pub written_all : length xs ≤ k → Written (flat_map enc xs) ys₀ ys at
    written_all h = rw (take_all k xs h) at w.written
