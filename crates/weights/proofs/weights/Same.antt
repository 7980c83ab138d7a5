-- Weights are weights by their numbers at the ports alone.
use Prim.Native.Nat.{ℕ}
use mathlib.Core.Path.{◌≡◌}
use Rattle.table.specs.WellFormed.{WellFormed}
use Rattle.specification.specs.Table.{Table, IsPort, from, to}
use Rattle.specification.specs.Ratios.{Proportional, Weights}

module _ {t : Table} {w v : ℕ → ℕ} (formed : WellFormed t) (same : (p : ℕ) → IsPort t p → v p ≡ w p) where
  proportional_same : Proportional t w → Proportional t v
  proportional_same h = record {
    positive = λ p i. rw (same p i) (h.positive p i);
    fits = λ k i.
        let fits = formed.links k i.below in
        rw (same (to t k) (record { below = fits.to }), same (from t k) (record { below = fits.from })) (h.fits k i);
  }

  pub weights_same : Weights t w → Weights t v
  weights_same h = record {
    proportional = proportional_same h.proportional;
    smallest = λ u k p i. rw (same p i) (h.smallest u k p i);
  }
