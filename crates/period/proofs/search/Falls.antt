-- The search ends: fractions with small parts that grow pass only finitely many.
use Prim.Native.Nat.{ℕ, suc, ◌*◌, ◌-◌, ◌/◌, ◌≤◌, ◌<◌}
use native.Mathlib.Nat.{div-mul-le_self, div-le_self, le-div_iff_mul-le, le_trans, mul-le-mul_right}
use native.Mathlib.Omega.{arith}
use Rattle.period.specs.Limits.{apart}

-- how far a/b is below y, in steps of 1 / y²
unfoldable pub left : (y a b : ℕ) → ℕ
left y a b = suc (y * (y * y)) - a * (y * y) / b

-- a greater fraction, both with denominators up to y, leaves less
pub left_falls : (y a b a' b' : ℕ) → 0 < b → 0 < b' → b ≤ y → b' ≤ y → a' ≤ y → a * b' < a' * b → left y a' b' < left y a b
unfolding left
left_falls y a b a' b' over over' small small' most greater =
    let step : suc (a * (y * y) / b) ≤ a' * (y * y) / b' = (le-div_iff_mul-le over').1 (apart (a * (y * y) / b) a a' over small small' (div-mul-le_self (a * (y * y)) b) greater) in
    let top : a' * (y * y) / b' ≤ y * (y * y) = le_trans (div-le_self (a' * (y * y)) b') (mul-le-mul_right (y * y) most) in
    omega arith
