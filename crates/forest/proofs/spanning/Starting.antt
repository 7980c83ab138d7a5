-- The lowest ports reached and the rows zero: the forest can spread.
use Prim.Native.Nat.{ℕ, ◌≤◌, ◌<◌}
use mathlib.Core.Path.{◌≡◌, ap, ◌∙◌}
use mathlib.Core.List.{List, []}
use native.Mathlib.Omega.{arith}
use lib.ListN.{get_or, replicate, length-replicate, get_or-replicate}
use Rattle.table.specs.WellFormed.{WellFormed}
use Rattle.specification.specs.Table.{Table, port_count, IsPort}
use Rattle.specification.specs.Ratios.{Component}
use Rattle.ways.specs.WayLaws.{component_unique, joined_component, way_port}
use Rattle.ways.specs.Labels.{Components}
use Rattle.forest.specs.PortRows.{zero_row, Near}
use Rattle.forest.specs.declared.spanning.Growing.{Growing}
use Rattle.forest.specs.Spreading.{Rooted, Spreading}

pub near_more : {row : List ℕ} {d e : ℕ} → Near row d → d ≤ e → Near row e
near_more n h = record {
  long = n.long;
  low = λ i b. omega (arith, n.low i b);
  high = λ i b. omega (arith, n.high i b);
}

zero_row_lem : Near zero_row 0
zero_row_lem = record {
  long = length-replicate {A = ℕ} 168 1000;
  low = λ i h. omega (arith, get_or-replicate {A = ℕ} 168 i 1000 0 h);
  high = λ i h. omega (arith, get_or-replicate {A = ℕ} 168 i 1000 0 h);
}

module _ {t : Table} (formed : WellFormed t) where
  module _ {labels : List ℕ} {f : Growing} (components : Components t labels) (r : Rooted (port_count t) labels f) where
    own_label : {p c : ℕ} → IsPort t p → Component t p c → 0 < get_or f.reach c 0
    own_label {c = c} i m =
        let port : IsPort t c = way_port formed m.joined.way i in
        r.all c port.below (component_unique (components.each c port) (joined_component m.joined m))

    pub start_spreading : {rows : List (List ℕ)} → rows ≡ replicate 64 zero_row → Spreading t f rows
    start_spreading e = rw e (record {
      numbered = r.numbered;
      via_long = r.via_long;
      rows_long = length-replicate 64 zero_row;
      near = λ p h. rw (get_or-replicate 64 p zero_row [] h) (near_more zero_row_lem (omega arith));
      root = λ p c i m. own_label i m;
      root_first = λ p c i m h. omega (
        arith,
        ap (λ (n : ℕ). get_or f.reach n 0) (component_unique m (components.each p i) ∙ r.only p h),
      );
      child = λ p i h other. absurd (other (rw (r.only p h) at (components.each p i)));
      up_to = λ m most. record {
        zero = λ p i h b l. rw (get_or-replicate 64 p zero_row [] h) (get_or-replicate {A = ℕ} 168 i 1000 0 b);
      };
    })
