-- The fewest digits of a number are its decimal.
use Prim.Native.Nat.{ℕ, zero, suc, ◌*◌, ◌-◌, ◌/◌, ◌%◌, ◌^◌, ◌≤◌, ◌<◌}
use mathlib.Core.Path.{◌≡◌, refl}
use native.Mathlib.Omega.{arith}
use native.Mathlib.Nat.{one-le-pow, pow-suc}
use borrow.Author.Tests.{lt-ltb, le-ltb}
use Rattle.io.specs.Digits.{last_digits, IsDigitCount}
use Rattle.text.specs.Lines.{decimal, decimal_in}

digits_decimal : (i j n : ℕ) → i ≤ j → n < 10 ^ suc i → (0 < i → 10 ^ i ≤ n) → last_digits 10 (suc i) n ≡ decimal_in j n
unfolding decimal_in
digits_decimal zero zero n h l g = refl
digits_decimal zero (suc j) n h l g =
    let e : n % 10 ≡ n = omega arith in
    let t : n < 10 = omega arith in
    rw (e, lt-ltb n 10 t)
digits_decimal (suc i) zero n h l g = absurd (omega arith)
digits_decimal (suc i) (suc j) n h l g =
    let high : 10 ^ suc i ≤ n = g (omega arith) in
    let top : n < 10 ^ suc i * 10 = rw (pow-suc 10 (suc i)) at l in
    let e : 10 ^ suc i ≡ 10 ^ i * 10 = pow-suc 10 i in
    let t : 10 ≤ n = omega (arith, one-le-pow i 10 (omega arith)) in
    rw (le-ltb n 10 t, digits_decimal i j (n / 10) (omega arith) (omega arith) (λ _. omega arith))

pub fewest_decimal : (n k : ℕ) → k ≤ 20 → IsDigitCount 10 1 n k → last_digits 10 k n ≡ decimal n
unfolding decimal
fewest_decimal n zero h f = absurd (omega arith)
fewest_decimal n (suc i) h f =
    let e : suc i - 1 ≡ i = omega arith in
    digits_decimal i 19 n (omega arith) f.1 (λ p. rw e at (f.2 (omega arith)))
