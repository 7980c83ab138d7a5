-- The numbers of a cycle's connections, put into an array one after another.
use Prim.Native.Nat.{ℕ, ◌≤◌, ◌<◌}
use mathlib.Core.Path.{◌≡◌}
use mathlib.Core.List.{List, map}
use native.Mathlib.Omega.{arith}
use lib.ListN.{length, get_or, take, length-take, length-drop}
use Rattle.period.specs.Search.{cycle_of}
use Rattle.numbers.specs.Taken.{member_at}
use Rattle.period.specs.declared.cycle.Cycle.{Cycle}
use Rattle.results.specs.Named.{NamedCycle}

-- a cycle has at most 64 edges
pub few_edges : (c : Cycle) → length (cycle_of c) ≤ 64
few_edges c = simp (length-take, length-drop) (omega (arith, c.within))

-- the first i of `named` are the numbers of the first i steps
pub record Named (numbers : List ℕ) (c : Cycle) (steps named : List ℕ) (i : ℕ) : Type 0 where
  pub steps_are : steps ≡ cycle_of c
  pub within : i ≤ length steps
  pub few : length steps ≤ 64
  pub room : length named ≡ 64
  pub alike : take i named ≡ map (λ j. get_or numbers j 0) (take i steps)

module _ {numbers : List ℕ} {c : Cycle} {steps named : List ℕ} {i : ℕ} (n : Named numbers c steps named i) where
  -- each step of the cycle is a place of the numbers
  pub step_named : NamedCycle numbers c → i < length steps → get_or steps i 0 < length numbers
  step_named h more = h.named (get_or steps i 0) (rw (← n.steps_are) (member_at steps i more))
