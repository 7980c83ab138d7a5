-- Numbers of steps that stand in a list: one step more, and copied.
use Prim.Native.Nat.{ℕ, zero, suc, ◌+◌, ◌*◌, ◌≤◌, ◌<◌}
use mathlib.Core.Path.{◌≡◌, refl}
use mathlib.Core.List.{List, [], ◌∷◌, ◌++◌}
use native.Mathlib.Omega.{arith}
use lib.ListN.{length, get_or}
use Rattle.specification.specs.Ratios.{Step}
use Rattle.forest.specs.Loop.{steps_from}
use Rattle.forest.specs.StepNumbers.{step_of, Put, Stands, none, more}

-- the same numbers at another place
pub stands_moved : {xs ys : List ℕ} {i j : ℕ} {steps : List Step}
    → ((p q : ℕ) → i ≤ p → p < i + 2 * length steps → q + i ≡ p + j → get_or ys q 0 ≡ get_or xs p 0)
    → Stands xs i steps
    → Stands ys j steps
stands_moved h none = none
stands_moved {xs} {ys} {i} {j} h (more s e d r) =
    let a : get_or ys j 0 ≡ get_or xs i 0 = h i j (omega arith) (omega arith) (omega arith) in
    let b : get_or ys (j + 1) 0 ≡ get_or xs (i + 1) 0 = h (i + 1) (j + 1) (omega arith) (omega arith) (omega arith) in
    more {at = j} s (rw (a, b) e) (rw b d) (stands_moved (λ p q l u m. h p q (omega arith) (omega arith) (omega arith)) r)

pub stands_append : {xs : List ℕ} {i j : ℕ} {up down : List Step}
    → j ≡ i + 2 * length up
    → Stands xs i up
    → Stands xs j down
    → Stands xs i (up ++ down)
stands_append {xs} {i} {j} {down = down} m none w = let e : i ≡ j = omega arith in rw e w
stands_append m (more s e d r) w = more s e d (stands_append (omega arith) r w)

module _ {xs ys : List ℕ} {at link against : ℕ} (put : Put xs ys at link against) where
  pub stands_one : against ≤ 1 → Stands ys at (step_of link against ∷ [])
  stands_one h = more {at = at} (step_of link against) (rw (put.number, put.direction)) (rw put.direction h) none

  -- steps that end before the place, or start behind it
  pub stands_before : {i : ℕ} {steps : List Step} → i + 2 * length steps ≤ at → Stands xs i steps → Stands ys i steps
  stands_before h w =
      stands_moved (λ p q l u m. let e : q ≡ p = omega arith in rw e (put.before p (omega arith))) w

  pub stands_behind : {i : ℕ} {steps : List Step} → at + 2 ≤ i → Stands xs i steps → Stands ys i steps
  stands_behind h w =
      stands_moved (λ p q l u m. let e : q ≡ p = omega arith in rw e (put.behind p (omega arith))) w

-- what stands is what is read
pub stands_steps : {xs : List ℕ} {at : ℕ} {steps : List Step} → Stands xs at steps → steps_from xs at (length steps) ≡ steps
unfolding steps_from
stands_steps none = refl
stands_steps (more s e d r) = rw (e, stands_steps r)

pub stands_direction : {xs : List ℕ} {at : ℕ} {steps : List Step} → Stands xs at steps → (i p : ℕ) → i < length steps
    → p ≡ at + (2 * i + 1)
    → get_or xs p 0 ≤ 1
stands_direction none i p h m = absurd (omega arith)
stands_direction {at = at} (more s e d r) zero p h m = let f : p ≡ at + 1 = omega arith in rw f d
stands_direction (more s e d r) (suc i) p h m = stands_direction r i p (omega arith) (omega arith)
