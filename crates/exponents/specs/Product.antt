-- What the product of a row's powers asks and gives.
use Rattle.std.specs.Prelude.{ℕ, ◌≡◌, ◌≤◌, ◌<◌, Option, MatchOption}

-- the product so far and a prime: one more factor does not wrap
pub record Factors (x p : ℕ) : Type 0 where
  pub product : x ≤ 10000
  pub positive : 1 ≤ p
  pub prime : p ≤ 1000

-- n, if it is at most 10,000
abbrev pub UpToBound : ℕ → Option ℕ → Type 0
UpToBound n r = MatchOption r (10000 < n) (λ m. (m ≡ n) × (m ≤ 10000))
