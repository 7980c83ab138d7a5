-- Two rows are equal exactly where the numbers that they stand for are.
use Prim.Native.Nat.{ℕ, ◌*◌}
use mathlib.Core.Path.{◌≡◌, sym, ap, ap₂, ◌∙◌}
use mathlib.Core.Bool.{Bool}
use mathlib.Core.List.{List}
use native.Mathlib.Nat.{eq_of_mul-eq-mul_right}
use lib.ListN.{length}
use Rattle.exponents.specs.Row.{row_value, Scaled, Same}
use Rattle.exponents.specs.RowLaws.{row_unique}
use Rattle.table.specs.WellFormed.{LinkFits}
use Rattle.specification.specs.declared.Link.{Link}
use Rattle.forest.specs.PortRows.{row_of, value_of, PortRows}
use Rattle.forest.specs.Agreement.{FitsRows}

pub compared : {l : Link} {rows : List (List ℕ)} {row : List ℕ} {r : Bool} → LinkFits 64 l → PortRows rows
    → Scaled (row_of rows l.to) l.num l.den row
    → length row ≡ 168
    → Same row (row_of rows l.from) r
    → FitsRows l rows r
compared {l} {rows} {row} f h x long same = record {
  yes = λ e. sym x.multiplied.value ∙ x.divided.value ∙ ap (λ (y : List ℕ). row_value y * l.den) (same.yes e);
  no = λ e q. same.no e (row_unique row (row_of rows l.from) long (h.near l.from f.from).long
      (eq_of_mul-eq-mul_right l.den f.den.least (row_value row) (value_of rows l.from) (sym x.divided.value ∙ x.multiplied.value ∙ q)));
}

-- the ratio is 1
pub compared_rows : {l : Link} {rows : List (List ℕ)} {r : Bool} → LinkFits 64 l → PortRows rows → l.num ≡ l.den
    → Same (row_of rows l.to) (row_of rows l.from) r
    → FitsRows l rows r
compared_rows {l} {rows} h x one same = record {
  yes = λ e. ap₂ (λ (a b : ℕ). a * b) (ap row_value (same.yes e)) one;
  no = λ e q. same.no e (row_unique (row_of rows l.to) (row_of rows l.from) (x.near l.to h.to).long (x.near l.from h.from).long
      (eq_of_mul-eq-mul_right l.num h.num.least (value_of rows l.to) (value_of rows l.from) (rw (← one) at q)));
}
