-- A step inserted into a list of steps: what a function of the steps gives.
use Prim.Native.Nat.{ℕ}
use mathlib.Core.Path.{◌≡◌, sym}
use mathlib.Core.Logic.{◌⊎◌, inr, ⊎_elim, ⊎_map}
use mathlib.Core.List.Memᴰ.{cases_cons}
use mathlib.Core.List.Memᴰ.{head as here}
use mathlib.Core.List.Memᴰ.{tail as there}
use mathlib.Core.List.{List, [], ◌∷◌, ◌++◌, map}
use Rattle.numbers.specs.Lists.{◌∈◌, Distinct, more}
use Rattle.specification.specs.Ratios.{Step}

module _ (f : Step → ℕ) (s : Step) (down : List Step) where
  pub inserted : (up : List Step) {x : ℕ} → x ∈ map f (up ++ s ∷ down) → (x ≡ f s) ⊎ (x ∈ map f (up ++ down))
  inserted [] m = cases_cons m
  inserted (r ∷ up) (here e) = inr (here e)
  inserted (r ∷ up) (there m) = ⊎_map (λ e. e) (λ n. there n) (inserted up m)

  pub distinct_inserted : (up : List Step) → ¬ (f s ∈ map f (up ++ down)) → Distinct (map f (up ++ down))
      → Distinct (map f (up ++ s ∷ down))
  distinct_inserted [] new d = more new d
  distinct_inserted (r ∷ up) new (more old d) =
      more (λ m. ⊎_elim (λ e. new (here (sym e))) old (inserted up m)) (distinct_inserted up (λ m. new (there m)) d)
