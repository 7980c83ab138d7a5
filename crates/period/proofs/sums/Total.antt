-- The sum of a small number for each of the first elements of a list.
use Prim.Native.Nat.{ℕ, ◌+◌, ◌*◌, ◌≤◌, ◌<◌}
use mathlib.Core.Path.{◌≡◌, refl}
use mathlib.Core.List.{List}
use native.Mathlib.Omega.{arith}
use lib.ListN.{length, get_or, take}
use lib.Seq.{take_all}
use Rattle.numbers.specs.Lists.{sum}
use Rattle.numbers.specs.Taken.{sum_take}
use Rattle.period.specs.Component.{most_amount}

-- what f gives for the first i elements, in sum
pub record Total (f : ℕ → ℕ) (path : List ℕ) (i total : ℕ) : Type 0 where
  pub is : total ≡ sum f (take i path)
  pub low : total ≤ i * most_amount

pub total_none : (f : ℕ → ℕ) (path : List ℕ) → Total f path 0 0
total_none f path = record { is = refl; low = omega arith }

pub total_more : {f : ℕ → ℕ} {path : List ℕ} {i total : ℕ} → Total f path i total → i < length path → f (get_or path i 0) ≤ most_amount
    → Total f path (i + 1) (total + f (get_or path i 0))
total_more {f} {path} {i} t more small = record { is = omega (arith, sum_take path i more f, t.is); low = omega arith }

pub total_all : {f : ℕ → ℕ} {path : List ℕ} {i total : ℕ} → Total f path i total → length path ≤ i → total ≡ sum f path
total_all {f} {path} {i} t done = rw (take_all i path done) at t.is
