-- A table whose ratios are all 1: every weight is 1.
use Prim.Native.Nat.{ℕ, ◌*◌}
use mathlib.Core.Path.{◌≡◌, ap₂, ◌∙◌, sym}
use mathlib.Core.List.{List}
use native.Mathlib.Omega.{arith}
use Rattle.table.specs.WellFormed.{WellFormed}
use Rattle.specification.specs.Table.{Table, port_count, from, to}
use Rattle.forest.specs.Parts.{greatest_part, zero_ones}
use Rattle.weights.specs.Weighed.{Ones, HasBaseWeights}

module _ {t : Table} (formed : WellFormed t) (none : greatest_part t ≡ 0) where
  pub unit_weights : {weights : List ℕ} → Ones (port_count t) weights → HasBaseWeights t weights
  unit_weights {weights} o = record {
    long = o.long;
    are = record {
      proportional = record {
        positive = λ p i. omega (arith, o.one p i.below);
        fits = λ k i.
            ap₂ (λ (x y : ℕ). x * y)
            (o.one (to t k) (formed.links k i.below).to ∙ sym (o.one (from t k) (formed.links k i.below).from))
            (zero_ones t formed none k i);
      };
      smallest = λ v h p i. omega (arith, o.one p i.below, h.positive p i);
    };
    small = λ p i. omega (arith, o.one p i.below);
    rest = o.rest;
  }
