-- A number is read from its last byte on.
use Prim.Native.Nat.{ℕ, suc, ◌+◌, ◌*◌, ◌-◌, ◌^◌, ◌≤◌, ◌<◌}
use mathlib.Core.Path.{◌≡◌, refl, ap, sym, ◌∙◌}
use mathlib.Core.List.{List, [], ◌∷◌, ◌++◌}
use native.Mathlib.Omega.{arith}
use native.Mathlib.Nat.{lt_of_lt_of_le}
use lib.ListN.{length, get_or, take, drop, length-drop}
use native.Mathlib.Numerals.{add-one}
use Rattle.std.proofs.lemmas.List.{length-take-le, length_push, get_or_push, get_or-take, get_or-drop, take_at, take-take}
use lib.Pow.{pow-add, pow_mono}
use Rattle.specification.specs.Bytes.{number_at}

-- of the n bytes from a place on the first ones are left, and the others are read
pub record Reading (s : List ℕ) (at n : ℕ) (left : List ℕ) (v : ℕ) : Type 0 where
  pub front : left ≡ take (length left) (drop at s)
  pub within : length left ≤ n
  pub is : v ≡ number_at s (at + length left) (n - length left)
  pub small : v < 2 ^ (8 * (n - length left))

pub reading_none : {s left : List ℕ} {at n : ℕ} → at + n ≤ length s → left ≡ take n (drop at s) → Reading s at n left 0
unfolding number_at
reading_none {s} {left} {at} {n} h f =
    let long : length left ≡ n = ap length f ∙ length-take-le n (drop at s) (omega (arith, length-drop at s)) in
    let e : n - length left ≡ 0 = omega arith in
    record { front = rw long f; within = omega arith; is = rw e; small = rw e (omega arith) }

module _ {s left : List ℕ} {at n v : ℕ} (h : Reading s at n left v) where
  -- the last of what is left is read
  pub reading_more : {rest : List ℕ} (x : ℕ) → ((i : ℕ) → get_or s i 0 < 256) → left ≡ rest ++ (x ∷ []) → Reading s at n rest (x + 256 * v)
  unfolding number_at
  reading_more {rest} x bytes e =
      let k = length rest in
      let long : length left ≡ suc k = ap length e ∙ length_push rest x ∙ add-one k in
      let part : rest ++ (x ∷ []) ≡ take (suc k) (drop at s) = sym e ∙ rw long at h.front in
      let front : rest ≡ take k (drop at s) = sym (take_at rest (x ∷ []) k refl) ∙ ap (λ (l : List ℕ). take k l) part ∙ take-take k (suc k) (drop at s) (omega arith) in
      let byte : get_or s (at + k) 0 ≡ x =
      sym (get_or-take (suc k) (drop at s) k 0 (omega arith) ∙ get_or-drop at s k 0)
      ∙ ap (λ (l : List ℕ). get_or l k 0) (sym part)
      ∙ get_or_push rest x 0 k refl in
      let m : n - k ≡ suc (n - suc k) = omega (arith, h.within, long) in
      let p : at + k + 1 ≡ at + suc k = omega arith in
      let q : 8 * suc (n - suc k) ≡ 8 * (n - suc k) + 8 = omega arith in
      record {
        front = front;
        within = omega (arith, h.within, long);
        is = rw (m, p, byte, ← (rw long at h.is));
        small = rw (m, q, pow-add 2 (8 * (n - suc k)) 8) (omega (arith, rw long at h.small, bytes (at + k), byte));
      }

  pub reading_small : n ≤ 8 → v < 2 ^ 64
  reading_small k = lt_of_lt_of_le h.small (pow_mono {j = 64} (omega arith))

  pub reading_all : length left ≡ 0 → (v ≡ number_at s at n) × (v < 2 ^ (8 * n))
  reading_all e =
      let p : at + 0 ≡ at = omega arith in
      let q : n - 0 ≡ n = omega arith in
      (rw (e, p, q) at h.is, rw (e, q) at h.small)
