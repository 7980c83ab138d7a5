-- Records written one behind another, each into the part of the answer buffer that begins at its place.
use Prim.Native.Nat.{ℕ, ◌+◌, ◌*◌, ◌≤◌, ◌<◌}
use mathlib.Core.Path.{◌≡◌, refl}
use mathlib.Core.List.{List, [], ◌++◌}
use native.Mathlib.Nat.{mul-le-mul_left}
use native.Mathlib.Omega.{arith}
use lib.ListN.{length}
use Rattle.specification.specs.Bytes.{Written}
use Rattle.records.specs.WrittenLaws.{written_length, part_at, put_back, written_append}

-- behind k of n records, none longer than `each`
pub record Appended (each n : ℕ) (xs ys₀ ys : List ℕ) (at k : ℕ) : Type 0 where
  pub within : k ≤ n
  pub room : at ≤ each * k
  pub same : length ys ≡ length ys₀
  pub written : Written xs ys₀ ys at

module _ {each n : ℕ} {ys₀ : List ℕ} where
  pub appended_none : Appended each n [] ys₀ ys₀ 0 0
  appended_none = record { within = omega arith; room = omega arith; same = refl; written = record { contents = refl; counted = refl } }

  module _ {xs ys : List ℕ} {at k : ℕ} (so_far : Appended each n xs ys₀ ys at k) (more : k < n) where
    pub appended_on : {b part : List ℕ} {m : ℕ}
        → each * n ≤ length ys₀
        → length b ≤ each
        → Written b (part_at ys at) part m
        → Appended each n (xs ++ b) ys₀ (put_back ys at part) (at + m) (k + 1)
    appended_on {b} {part} {m} fits short v =
        let w = written_append so_far.written v in
        let room : at + m ≤ each * (k + 1) = omega (arith, v.counted) in
        let most : each * (k + 1) ≤ each * n = mul-le-mul_left each (omega arith) in
        record { within = omega arith; room = room; same = written_length w (omega (arith, w.counted)); written = w }

    pub appended_off : Appended each n xs ys₀ ys at (k + 1)
    appended_off = record { within = omega arith; room = omega (arith, so_far.room); same = so_far.same; written = so_far.written }
