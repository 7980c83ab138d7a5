-- Numbers are read back from the bytes that they were written as.
use Rattle.std.specs.Prelude.{ℕ, zero, suc, ◌+◌, ◌/◌, ◌%◌, ◌^◌, ◌≤◌, ◌<◌, ◌≡◌, List, [], ◌∷◌, ◌++◌, take}
use Rattle.std.proofs.Math.Path.{refl}
use Rattle.std.proofs.Common.{add_assoc, pow-suc, arith, get_or-append-add, get_or-take}
use Rattle.std.proofs.Math.ListN.{length}
use Rattle.specification.specs.Bytes.{encode, number_at, bytes}

-- what stands in front of the bytes only moves the place
pub number_behind : (pre s : List ℕ) (at n : ℕ) → number_at (pre ++ s) (length pre + at) n ≡ number_at s at n
unfolding number_at
number_behind pre s at zero = refl
number_behind pre s at (suc n) = rw (get_or-append-add, add_assoc, number_behind pre s (at + 1) n)

-- a number that lies in the first m bytes
pub number_front : (s : List ℕ) (m at n : ℕ) → at + n ≤ m → number_at (take m s) at n ≡ number_at s at n
unfolding number_at
number_front s m at zero h = refl
number_front s m at (suc n) h = rw (get_or-take m s at 0 (omega arith), number_front s m (at + 1) n (omega arith))

pub number_bytes : (n : ℕ) {v : ℕ} (post : List ℕ) → v < 256 ^ n → number_at (bytes n v ++ post) 0 n ≡ v
unfolding number_at bytes
number_bytes zero {v} post h = omega arith
number_bytes (suc n) {v} post h =
    let small : v / 256 < 256 ^ n = omega (arith, pow-suc 256 n) in
    rw (number_behind (v % 256 ∷ []) (bytes n (v / 256) ++ post) 0 n, number_bytes n {v = v / 256} post small) (omega arith)

-- a number behind other bytes
pub number_in : (pre post : List ℕ) (n : ℕ) {v at : ℕ} → at ≡ length pre → v < 256 ^ n → number_at (pre ++ (bytes n v ++ post)) at n ≡ v
number_in pre post n {v} {at} e h =
    let place : at ≡ length pre + 0 = omega arith in
    rw (place, number_behind) (number_bytes n post h)

-- ---- a record: its length, its kind, and the numbers of its body
pub encode_length : (kind : ℕ) (body : List ℕ) → length (encode kind body) ≡ 4 + length body
unfolding encode bytes
encode_length kind body = omega arith

module _ (kind : ℕ) (body post : List ℕ) where
  pub length_field : 2 + length body < 256 ^ 2 → number_at (encode kind body ++ post) 0 2 ≡ 2 + length body
  unfolding encode bytes
  length_field h = number_bytes 2 (bytes 2 kind ++ body ++ post) h

  pub kind_field : kind < 256 ^ 2 → number_at (encode kind body ++ post) 2 2 ≡ kind
  unfolding encode bytes
  kind_field h = number_in (bytes 2 (2 + length body)) (body ++ post) 2 refl h

  pub body_field : (at n : ℕ) → number_at (encode kind body ++ post) (4 + at) n ≡ number_at (body ++ post) at n
  unfolding encode bytes
  body_field at n = number_behind (bytes 2 (2 + length body) ++ bytes 2 kind) (body ++ post) at n
