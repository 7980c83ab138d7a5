-- A number that is at most 10,000, or an error.
use Prim.Native.Nat.{ℕ, ◌≤◌, ◌<◌}
use mathlib.Core.Path.{◌≡◌}
use Rattle.std.specs.Prelude.{Option, None, Some, Result, Ok, Err}
use Rattle.std.specs.Option.{ok_or}
use Rattle.exponents.specs.Product.{UpToBound}

module _ {E : Type 0} {n : ℕ} (e : E) {r : Result ℕ E} where
  pub over_bound : {d : E} (o : Option ℕ) → UpToBound n o → r ≡ ok_or o e → r ≡ Err d → 10000 < n
  over_bound None u is err = u
  over_bound (Some x) u is err = cc

  pub within_bound : {v : ℕ} (o : Option ℕ) → UpToBound n o → r ≡ ok_or o e → r ≡ Ok v → (v ≡ n) × (v ≤ 10000)
  within_bound None u is ok = cc
  within_bound {v = v} (Some x) u is ok = let same : v ≡ x = cc in rw same u
