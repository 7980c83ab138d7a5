-- What a turn of a writer's loop leaves to store.
use Prim.Native.Nat.{ℕ, suc, ◌+◌, ◌*◌, ◌-◌, ◌%◌, ◌/◌, ◌≤◌, ◌<◌}
use mathlib.Core.Path.{◌≡◌, refl, ◌∙◌}
use mathlib.Core.List.{List, [], ◌++◌}
use native.Mathlib.Omega.{arith}
use native.Mathlib.Numerals.{add-one}
use lib.ListN.{length, set, get_or, drop, drop_of_length-le}
use lib.Seq.{sets, sets-eq, length-sets, drop-cons, take-suc-set}
use borrow.Rule.Slice.PartMut.{put_mid}
use Rattle.std.proofs.Common.{sym, append_assoc, append-nil, take_all, drop-drop, length-set}
use lib.ListN.{take}
use Rattle.specification.specs.Bytes.{bytes, words}
use Rattle.records.specs.WrittenLaws.{sets_append}

-- the part has the first i bytes of a number, and the others are those of x
pub record Storing (n v : ℕ) (part : List ℕ) (i x : ℕ) : Type 0 where
  pub long : length part ≡ n
  pub is : take i part ++ bytes (n - i) x ≡ bytes n v

pub storing_none : {part : List ℕ} {n : ℕ} (v : ℕ) → length part ≡ n → Storing n v part 0 v
storing_none {n = n} v e = let z : n - 0 ≡ n = omega arith in record { long = e; is = rw z }

module _ {n v i x : ℕ} {part : List ℕ} (s : Storing n v part i x) where
  pub storing_on : i < n → Storing n v (set part i (x % 256)) (i + 1) (x / 256)
  unfolding bytes
  storing_on h =
      let e : n - i ≡ suc (n - (i + 1)) = omega arith in
      let room : i < length part = omega (arith, s.long) in
      record {
        long = length-set part i (x % 256) ∙ s.long;
        is = rw (add-one i, take-suc-set part i (x % 256) room, append_assoc) (rw (e, add-one i) at s.is);
      }

  pub storing_all : n ≤ i → part ≡ bytes n v
  unfolding bytes
  storing_all h = let e : n - i ≡ 0 = omega arith in sym (take_all i part (omega (arith, s.long))) ∙ rw (e, append-nil) at s.is

-- the part stands in its list
pub stored_part : {part : List ℕ} (l : List ℕ) (at n v : ℕ) → at + n ≤ length l → length part ≡ n → part ≡ bytes n v
    → put_mid at (at + n - at) l part ≡ sets l at (bytes n v)
stored_part {part} l at n v room long e =
    let size : at + n - at ≡ n = omega arith in
    rw (size, drop-drop, ← e, sets-eq part l at (omega (arith, long)), long, append_assoc)

-- where l is now, to store xs at a place is all that is left of storing xs₀ in l₀ at its place
pub record Left (l₀ : List ℕ) (at₀ : ℕ) (xs₀ l : List ℕ) (at : ℕ) (xs : List ℕ) : Type 0 where
  pub same : length l ≡ length l₀
  pub rest : sets l at xs ≡ sets l₀ at₀ xs₀

module _ {l₀ : List ℕ} {at₀ : ℕ} {xs₀ : List ℕ} where
  pub left_all : {at : ℕ} {xs : List ℕ} → at ≡ at₀ → xs ≡ xs₀ → Left l₀ at₀ xs₀ l₀ at xs
  left_all a e = record { same = refl; rest = rw (a, e) }

  -- the first of what is left is stored
  left_less : (l : List ℕ) (at : ℕ) (xs ys : List ℕ) {to : ℕ} {zs : List ℕ}
      → Left l₀ at₀ xs₀ l at zs
      → zs ≡ xs ++ ys
      → to ≡ at + length xs
      → Left l₀ at₀ xs₀ (sets l at xs) to ys
  left_less l at xs ys f e a =
      record {
        same = length-sets l at xs ∙ f.same;
        rest = rw (a, sets_append, ← e) f.rest;
      }

  left_none : {l : List ℕ} {at : ℕ} {xs : List ℕ} → Left l₀ at₀ xs₀ l at xs → xs ≡ [] → l ≡ sets l₀ at₀ xs₀
  left_none f e = rw e at f.rest

  -- of the words of the numbers ns, of which i are stored
  module _ (l : List ℕ) (at i : ℕ) (ns : List ℕ) where
    pub word_less : (l' : List ℕ) → i < length ns
        → l' ≡ sets l (at + 2 * i) (bytes 2 (get_or ns i 0))
        → Left l₀ at₀ xs₀ l (at + 2 * i) (words (drop i ns))
        → Left l₀ at₀ xs₀ l' (at + 2 * (i + 1)) (words (drop (i + 1) ns))
    unfolding bytes words
    word_less l' h s f =
        rw s
        (left_less l (at + 2 * i) (bytes 2 (get_or ns i 0)) _ f (rw (drop-cons ns i 0, add-one i)) (omega arith))

    pub word_none : length ns ≤ i → Left l₀ at₀ xs₀ l (at + 2 * i) (words (drop i ns)) → l ≡ sets l₀ at₀ xs₀
    unfolding words
    word_none h f = left_none f (rw (drop_of_length-le ns {i = i}))
