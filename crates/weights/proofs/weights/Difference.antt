-- The difference of two rows as a list, and the number that it stands for.
use Prim.Native.Nat.{ℕ, zero, suc, ◌*◌, ◌-◌}
use mathlib.Core.Path.{◌≡◌, refl, sym}
use mathlib.Core.List.{List, [], ◌∷◌}
use native.Mathlib.Omega.{arith}
use lib.ListN.{get_or}
use Rattle.exponents.specs.Row.{row_value, Within, excess}
use Rattle.exponents.specs.RowLaws.{excess_value}
use Rattle.exponents.specs.Powers.{powers_same}
use Rattle.exponents.specs.Primes.{prime_at}
use Rattle.numbers.specs.Exponents.{powers}

pub difference : List ℕ → List ℕ → List ℕ
difference [] b = []
difference (x ∷ a) [] = x ∷ a
difference (x ∷ a) (y ∷ b) = (x - y) ∷ difference a b

pub difference_place : (a b : List ℕ) (i : ℕ) → get_or (difference a b) i 0 ≡ get_or a i 0 - get_or b i 0
unfolding difference
difference_place [] b i = omega arith
difference_place (x ∷ a) [] i = omega arith
difference_place (x ∷ a) (y ∷ b) zero = refl
difference_place (x ∷ a) (y ∷ b) (suc i) = difference_place a b i

-- it stands for the powers by which a exceeds b
pub excess_difference : (a b : List ℕ) → powers prime_at (excess b a) 168 ≡ row_value (difference a b)
unfolding row_value
excess_difference a b = powers_same prime_at 168 (λ i h. sym (difference_place a b i))

-- its value times that of b is that of a
pub difference_value : {a b : List ℕ} → Within b a → row_value (difference a b) * row_value b ≡ row_value a
difference_value {a} {b} w = rw (← excess_difference a b) (excess_value a b w)
