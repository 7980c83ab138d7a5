-- The row of a port that is reached over a link.
use Prim.Native.Nat.{ℕ, ◌*◌}
use mathlib.Core.Path.{◌≡◌, refl, sym, ap, ◌∙◌}
use mathlib.Core.Logic.{◌≢◌}
use mathlib.Core.List.{List}
use native.Mathlib.Omega.{arith}
use lib.ListN.{length, set}
use Rattle.exponents.specs.Row.{row_value, Scaled}
use Rattle.exponents.specs.RowLaws.{multiplied_above}
use Rattle.forest.specs.PortRows.{row_of}
use Rattle.forest.specs.Spreading.{Spreadable, RowMade}

module _ {rows : List (List ℕ)} {p q times by : ℕ} (x : Spreadable rows p q times by) where
  -- the ratio is 1
  pub spread_same : times ≡ by → RowMade rows p q times by (set rows q (row_of rows p))
  spread_same e = record {
    row = row_of rows p;
    rows_made = refl;
    long = x.near.long;
    value = ap (λ (n : ℕ). row_value (row_of rows p) * n) (sym e);
    low = λ i h. omega arith;
    high = λ i h. omega arith;
    above = λ n i a b h l. refl;
  }

  pub spread_on : {row : List ℕ} → Scaled (row_of rows p) times by row → length row ≡ 168 → times ≢ by
      → RowMade rows p q times by (set rows q row)
  spread_on {row} s long apart = record {
    row = row;
    rows_made = refl;
    long = long;
    value = sym s.divided.value ∙ s.multiplied.value;
    low = λ i h. omega (arith, s.multiplied.grows i h, s.divided.bounded i h);
    high = λ i h. omega (arith, s.multiplied.bounded i h, s.divided.grows i h);
    above = λ n i a b h l.
        sym (multiplied_above x.by_fits.least s.divided i h (omega (arith, b apart)))
        ∙ multiplied_above x.times_fits.least s.multiplied i h (omega (arith, a apart));
  }
