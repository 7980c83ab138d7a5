-- What an edge does, by what it asks.
use Prim.Native.Nat.{ℕ, ◌≤◌, ◌<◌, max}
use mathlib.Core.Path.{◌≡◌}
use mathlib.Core.List.{List}
use native.Mathlib.Decide.{ℕ_discrete}
use native.Mathlib.Omega.{arith}
use lib.ListN.{length, get_or, set}
use lib.Seq.{set-get_or, get_or-set_same, get_or-set_other}
use Rattle.rounds.specs.Starts.{raise}

module _ (t : List ℕ) (j v : ℕ) where
  -- an edge that asks for no more than its receiver's start leaves it alone
  pub raise_same : v ≤ get_or t j 0 → t ≡ raise t j v
  unfolding raise
  raise_same h = let e : max (get_or t j 0) v ≡ get_or t j 0 = omega arith in rw (e, set-get_or t j 0)

  -- no start passes what none passed before and what is asked for does not pass
  pub raise_most : {m : ℕ} → j < length t → ((i : ℕ) → get_or t i 0 ≤ m) → v ≤ m → (i : ℕ) → get_or (raise t j v) i 0 ≤ m
  unfolding raise
  raise_most inside all h i = elim (ℕ_discrete i j) [
    | yes e ↦ rw (e, get_or-set_same t j (max (get_or t j 0) v) 0 inside) (omega (arith, all j))
    | no f ↦ rw (get_or-set_other t j i (max (get_or t j 0) v) 0 f) (all i)
  ]

  -- an edge that asks for more raises it
  pub raise_more : get_or t j 0 < v → set t j v ≡ raise t j v
  unfolding raise
  raise_more h = let e : max (get_or t j 0) v ≡ v = omega arith in rw e
