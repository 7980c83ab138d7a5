-- What one condition asks of the multiplication, and the labels of the ports as a front of all.
use Prim.Native.Nat.{ℕ, ◌*◌}
use mathlib.Core.Path.{◌≡◌, ap, ◌∙◌}
use mathlib.Core.List.{List}
use native.Mathlib.Omega.{arith}
use lib.ListN.{get_or, take}
use Rattle.std.proofs.lemmas.List.{get_or-take}
use Rattle.fraction.specs.Lowest.{lowest_terms}
use Rattle.fraction.specs.declared.Fraction.{Fraction}
use Rattle.ways.specs.Scaling.{lacking, lowest_lacking, lacking_most}
use Rattle.weights.specs.Scaled.{Multiplying, MultipliedTo, Passing, Scalable}

-- ---- one condition
module _ {weights labels : List ℕ} {from amount over : ℕ} (s : Scalable weights labels from amount over) where
  module _ {f : Fraction} (is : f ≡ lowest_terms (amount * get_or weights from 0) over) where
    pub den_is : f.den ≡ lacking over (amount * get_or weights from 0)
    den_is = ap (λ (x : Fraction). x.den) is ∙ lowest_lacking (amount * get_or weights from 0) over

    pub scale_factor : Multiplying weights labels f.den
    scale_factor = record {
      long = s.long;
      few = s.few;
      small = s.small;
      small_factor = omega (arith, den_is, lacking_most over (amount * get_or weights from 0), s.over_most);
    }

-- ---- a front of the labels
module _ {labels : List ℕ} {n c f : ℕ} {weights : List ℕ} where
  pub multiplied_front : {weights' : List ℕ} → MultipliedTo (take n labels) n c f weights weights' → MultipliedTo labels n c f weights weights'
  multiplied_front m = record {
    same_length = m.same_length;
    times = λ p h. rw (get_or-take n labels p 0 h) at (m.times p h);
    small = m.small;
    rest = m.rest;
  }

  pub passing_front : Passing (take n labels) n c f weights → Passing labels n c f weights
  passing_front p = record { at = p.at; below = p.below; passes = rw (get_or-take n labels p.at 0 p.below) at p.passes }
