-- Multiplying and dividing a row by a number, one prime factor after the other.
use Prim.Native.Nat.{ℕ, suc, ◌+◌, ◌*◌, ◌-◌, ◌/◌, ◌^◌, ◌≤◌, ◌<◌}
use mathlib.Core.Path.{◌≡◌, refl, sym, ap, ◌∙◌}
use mathlib.Core.List.{List}
use native.Mathlib.Nat.{eq_of_mul-eq-mul_right, mul-le-mul_left, mul-le-mul_right, pow-le-pow_right, pow-suc, div-lt_self}
use native.Mathlib.Decide.{ℕ_discrete, dec_le}
use native.Mathlib.Omega.{arith}
use lib.ListN.{length, get_or, set, length-set}
use lib.Seq.{get_or-set_same, get_or-set_other}
use Rattle.exponents.specs.Divisors.{FromTwo}
use Rattle.exponents.specs.Primes.{prime_at}
use Rattle.exponents.specs.Factor.{IsFactor}
use Rattle.exponents.specs.Row.{row_value, RoomToMultiply, RoomToDivide, Multiplied, Scaled}
use Rattle.exponents.specs.Powers.{powers_raised}

-- ---- storing into a row
-- what holds of the stored value at its place, and of the others, holds at each place
pub stored : (P : ℕ → ℕ → Type 0) (r : List ℕ) {i v : ℕ} → i < length r → P i v → ((k : ℕ) → k < 168 → P k (get_or r k 0))
    → (k : ℕ) → k < 168 → P k (get_or (set r i v) k 0)
stored P r {i} {v} h new old k l = decided (ℕ_discrete k i)
  where
    decided : Dec (k ≡ i) → P k (get_or (set r i v) k 0)
    decided (yes e) = rw (e, get_or-set_same r i v 0 h) new
    decided (no f) = rw (get_or-set_other r i k v 0 f) (old k l)

-- ---- a row with one exponent raised by one
raised_value : (row : List ℕ) (i : ℕ) → length row ≡ 168 → i < 168
    → row_value (set row i (get_or row i 0 + 1)) ≡ row_value row * prime_at i
unfolding row_value
raised_value row i e h =
    powers_raised prime_at 168 i h (get_or-set_same row i (get_or row i 0 + 1) 0 (omega arith))
    (λ k o. get_or-set_other row i k (get_or row i 0 + 1) 0 o)

lowered_value : (row : List ℕ) (i : ℕ) → length row ≡ 168 → i < 168 → 1 ≤ get_or row i 0
    → row_value row ≡ row_value (set row i (get_or row i 0 - 1)) * prime_at i
unfolding row_value
lowered_value row i e h l =
    powers_raised prime_at 168 i h (omega (arith, get_or-set_same row i (get_or row i 0 - 1) 0 (omega arith)))
    (λ k o. sym (get_or-set_other row i k (get_or row i 0 - 1) 0 o))

-- ---- high times what is left is low times n; each factor so far was 2 at least
pub record Partly (low high : List ℕ) (n left : ℕ) : Type 0 where
  pub low_length : length low ≡ 168
  pub high_length : length high ≡ 168
  pub positive : 1 ≤ left
  pub count : ℕ
  pub few : left * 2 ^ count ≤ 1000
  pub value : row_value high * left ≡ row_value low * n
  pub grows : (i : ℕ) → i < 168 → get_or low i 0 ≤ get_or high i 0
  pub bounded : (i : ℕ) → i < 168 → get_or high i 0 ≤ get_or low i 0 + count

pub partly_none : {row : List ℕ} {n : ℕ} → length row ≡ 168 → 1 ≤ n → n ≤ 1000 → Partly row row n n
partly_none {row} {n} e l h = record {
  low_length = e;
  high_length = e;
  positive = l;
  count = 0;
  few = omega (arith, h);
  value = refl;
  grows = λ i k. omega arith;
  bounded = λ i k. omega arith;
}

count_within : (left count : ℕ) → 1 ≤ left → left * 2 ^ count ≤ 1000 → count ≤ 9
count_within left count l h = decided (dec_le count 9)
  where
    decided : Dec (count ≤ 9) → count ≤ 9
    decided (yes q) = q
    decided (no f) =
        let many : 10 ≤ count = omega (arith, f) in
        let large : 2 ^ 10 ≤ 2 ^ count = pow-le-pow_right {n = 2} (omega arith) many in
        omega (arith, h, large, mul-le-mul_right (2 ^ count) l)

-- one more factor halves what may be left
few_more : {left p i : ℕ} (count : ℕ) → left * 2 ^ count ≤ 1000 → IsFactor left p i → left / p * 2 ^ suc count ≤ 1000
few_more {left} {p} count h f =
    omega (
      arith,
      h,
      pow-suc 2 count,
      ap (λ (x : ℕ). left / p * x) (pow-suc 2 count),
      ap (λ (x : ℕ). x * 2 ^ count) f.whole,
      mul-le-mul_right (left / p * 2 ^ count) f.low,
    )

left_positive : {left p i : ℕ} → 1 ≤ left → IsFactor left p i → 1 ≤ left / p
left_positive {left} {p} l f = decided (dec_le 1 (left / p))
  where
    decided : Dec (1 ≤ left / p) → 1 ≤ left / p
    decided (yes q) = q
    decided (no g) =
        let none : left / p ≡ 0 = omega (arith, g) in
        absurd (omega (arith, l, f.whole, ap (λ (x : ℕ). p * x) none))

pub left_falls : {low high : List ℕ} {n left p i : ℕ} → Partly low high n left → IsFactor left p i → left / p < left
left_falls {left = left} {p} s f = div-lt_self {n = left} {k = p} s.positive f.low

pub from_two : {low high : List ℕ} {n left : ℕ} → Partly low high n left → 1 < left → FromTwo left
from_two {left = left} s h =
    record { low = h; high = omega (arith, s.few, mul-le-mul_left left (pow-le-pow_right {n = 2} (omega arith) {i = 0} {j = s.count} (omega arith))) }

-- ---- one turn
pub multiplied_on : {row r : List ℕ} {n left p i : ℕ} → Partly row r n left → IsFactor left p i
    → Partly row (set r i (get_or r i 0 + 1)) n (left / p)
multiplied_on {row} {r} {n} {left} {p} {i} s f = record {
  low_length = s.low_length;
  high_length = length-set r i (get_or r i 0 + 1) ∙ s.high_length;
  positive = left_positive s.positive f;
  count = suc s.count;
  few = few_more s.count s.few f;
  value =
      omega (
        arith,
        s.value,
        ap (λ (x : ℕ). x * (left / p)) (raised_value r i s.high_length f.below),
        ap (λ (x : ℕ). row_value r * x * (left / p)) f.prime,
        ap (λ (x : ℕ). row_value r * x) f.whole,
      );
  grows =
      stored (λ (k x : ℕ). get_or row k 0 ≤ x) r inside (omega (arith, s.grows i f.below)) (λ k l. s.grows k l);
  bounded =
      stored (λ (k x : ℕ). x ≤ get_or row k 0 + suc s.count) r inside (omega (arith, s.bounded i f.below))
      (λ k l. omega (arith, s.bounded k l));
}
  where
    inside : i < length r
    inside = omega (arith, s.high_length, f.below)

pub divided_on : {row r : List ℕ} {n left p i : ℕ} → Partly r row n left → IsFactor left p i → 1 ≤ get_or r i 0
    → Partly (set r i (get_or r i 0 - 1)) row n (left / p)
divided_on {row} {r} {n} {left} {p} {i} s f some = record {
  low_length = length-set r i (get_or r i 0 - 1) ∙ s.low_length;
  high_length = s.high_length;
  positive = left_positive s.positive f;
  count = suc s.count;
  few = few_more s.count s.few f;
  value =
      eq_of_mul-eq-mul_right p (omega (arith, f.low)) (row_value row * (left / p)) (row_value (set r i (get_or r i 0 - 1)) * n)
      (omega (
        arith,
        s.value,
        ap (λ (x : ℕ). x * n) (lowered_value r i s.low_length f.below some),
        ap (λ (x : ℕ). row_value (set r i (get_or r i 0 - 1)) * x * n) f.prime,
        ap (λ (x : ℕ). row_value row * x) f.whole,
      ));
  grows =
      stored (λ (k x : ℕ). x ≤ get_or row k 0) r inside (omega (arith, s.grows i f.below)) (λ k l. s.grows k l);
  bounded =
      stored (λ (k x : ℕ). get_or row k 0 ≤ x + suc s.count) r inside (omega (arith, s.bounded i f.below))
      (λ k l. omega (arith, s.bounded k l));
}
  where
    inside : i < length r
    inside = omega (arith, s.low_length, f.below)

-- ---- the exponents stay within their type
pub room_above : {row r : List ℕ} {n left p i : ℕ} → RoomToMultiply row n → Partly row r n left → IsFactor left p i
    → get_or r i 0 + 1 < 65536
room_above {left = left} {i = i} h s f =
    omega (arith, h.room i f.below, s.bounded i f.below, count_within left s.count s.positive s.few)

-- what is divided is no smaller than the row at the start
pub room_below : {row between r : List ℕ} {times factors by left p i : ℕ} → RoomToDivide row by → Partly row between times factors
    → Partly r between by left → IsFactor left p i → 1 ≤ get_or r i 0
room_below {left = left} {p} {i} h m s f =
    omega (
      arith,
      h.room i f.below,
      m.grows i f.below,
      s.bounded i f.below,
      count_within (left / p) (suc s.count) (left_positive s.positive f) (few_more s.count s.few f),
    )

-- ---- at the end
pub partly_all : {row r : List ℕ} {n left : ℕ} → Partly row r n left → left ≤ 1 → Multiplied row n r
partly_all {row} {r} {n} {left} s h = record {
  value =
      let one : left ≡ 1 = omega (arith, h, s.positive) in
      omega (arith, s.value, ap (λ (x : ℕ). row_value r * x) one);
  grows = s.grows;
  bounded = λ i l. omega (arith, s.bounded i l, count_within left s.count s.positive s.few);
}

pub scaled_all : {row between r : List ℕ} {times factors by rest : ℕ} → Partly row between times factors → factors ≤ 1
    → Partly r between by rest → rest ≤ 1 → Scaled row times by r
scaled_all {between = between} m h d k = record { between = between; multiplied = partly_all m h; divided = partly_all d k }
