-- The least rows as the ports are passed.
use Prim.Native.Nat.{ℕ, ◌+◌, ◌≤◌, ◌<◌}
use mathlib.Core.Path.{◌≡◌, refl, ◌∙◌}
use mathlib.Core.List.{List, []}
use mathlib.Core.Logic.{◌≢◌, ⊎_elim}
use native.Mathlib.Decide.{ℕ_discrete}
use native.Mathlib.Omega.{arith}
use borrow.Author.Count.{below_more}
use lib.ListN.{length, get_or, set, length-set}
use lib.Seq.{get_or-set_same, get_or-set_other}
use Rattle.exponents.specs.Row.{Within, Lesser, TakenLesser}
use Rattle.specification.specs.Table.{Table, port_count, IsPort}
use Rattle.numbers.specs.ListLaws.{lt_or_le}
use Rattle.ways.specs.WayLaws.{way_port, joined_component, component_unique}
use Rattle.forest.specs.PortRows.{row_of}
use Rattle.weights.specs.LeastRows.{LabelledRows, Attained, LeastRows}

module _ {t : Table} {labels : List ℕ} {rows : List (List ℕ)} (g : LabelledRows t labels rows) where
  label_port : (p : ℕ) → IsPort t p → IsPort t (get_or labels p 0)
  label_port p i = way_port g.well_formed (g.components.each p i).joined.way i

  -- the lowest port of a component is its own label
  label_own : (p : ℕ) → IsPort t p → get_or labels (get_or labels p 0) 0 ≡ get_or labels p 0
  label_own p i =
      component_unique (g.components.each (get_or labels p 0) (label_port p i))
      (joined_component (g.components.each p i).joined (g.components.each p i))

  pub label_small : {p : ℕ} → p < port_count t → get_or labels p 0 < 64
  label_small {p} h = omega (arith, (label_port p (record { below = h })).below, g.well_formed.few_ports)

  pub least_none : LeastRows t labels rows 0 rows
  least_none = record {
    long = g.all;
    each = g.each;
    least = λ p h. absurd (omega arith);
    attained = λ p i port h. record { at = get_or labels p 0; a_port = label_port p port; label = label_own p port; is = refl };
  }

  -- the row of port p is taken in
  module _ {r : List (List ℕ)} {p : ℕ} {x : List ℕ} (port : p < port_count t) (l : LeastRows t labels rows p r)
      (x_long : length x ≡ 168) (less : Lesser (row_of r (get_or labels p 0)) (row_of rows p) x) where
    abbrev next : List (List ℕ)
    next = set r (get_or labels p 0) x

    changed : row_of next (get_or labels p 0) ≡ x
    changed = get_or-set_same r (get_or labels p 0) x [] (omega (arith, label_small port, l.long))

    kept : (c : ℕ) → c ≢ get_or labels p 0 → row_of next c ≡ row_of r c
    kept c f = get_or-set_other r (get_or labels p 0) c x [] f

    least_before : (q : ℕ) → q < p → Dec (get_or labels q 0 ≡ get_or labels p 0) → Within (row_of next (get_or labels q 0)) (row_of rows q)
    least_before q h (yes e) = rw (e, changed) (record {
      place = λ i b. omega (arith, less.place i b, (rw e at (l.least q h)).place i b);
    })
    least_before q h (no f) = rw (kept (get_or labels q 0) f) (l.least q h)

    least_here : Within (row_of next (get_or labels p 0)) (row_of rows p)
    least_here = rw changed (record { place = λ i b. omega (arith, less.place i b) })

    -- the smaller of the two exponents
    attained_here : (i : ℕ) → i < 168 → Attained t labels rows (get_or labels p 0) i (get_or x i 0)
    attained_here i b =
        let a = l.attained p i (record { below = port }) b in
        ⊎_elim
        (λ (h : get_or (row_of r (get_or labels p 0)) i 0 < get_or (row_of rows p) i 0).
        record { at = a.at; a_port = a.a_port; label = a.label; is = omega (arith, a.is, less.place i b) })
        (λ (h : get_or (row_of rows p) i 0 ≤ get_or (row_of r (get_or labels p 0)) i 0).
        record { at = p; a_port = record { below = port }; label = refl; is = omega (arith, less.place i b) })
        (lt_or_le (get_or (row_of r (get_or labels p 0)) i 0) (get_or (row_of rows p) i 0))

    attained_next : (q i : ℕ) → IsPort t q → i < 168 → Dec (get_or labels q 0 ≡ get_or labels p 0)
        → Attained t labels rows (get_or labels q 0) i (get_or (row_of next (get_or labels q 0)) i 0)
    attained_next q i a b (yes e) = rw (e, changed) (attained_here i b)
    attained_next q i a b (no f) = rw (kept (get_or labels q 0) f) (l.attained q i a b)

    each_next : (c : ℕ) → c < 64 → Dec (c ≡ get_or labels p 0) → length (row_of next c) ≡ 168
    each_next c h (yes e) = rw (e, changed) x_long
    each_next c h (no f) = rw (kept c f) (l.each c h)

    least_on : LeastRows t labels rows (p + 1) next
    least_on = record {
      long = length-set r (get_or labels p 0) x ∙ l.long;
      each = λ c h. each_next c h (ℕ_discrete c (get_or labels p 0));
      least = below_more _ p (λ q h. least_before q h (ℕ_discrete (get_or labels q 0) (get_or labels p 0))) least_here;
      attained = λ q i a b. attained_next q i a b (ℕ_discrete (get_or labels q 0) (get_or labels p 0));
    }

-- the same of what `take_lesser` makes
pub least_taken : {t : Table} {labels : List ℕ} {rows r : List (List ℕ)} {p : ℕ} {x : List ℕ} → LabelledRows t labels rows → p < port_count t
    → LeastRows t labels rows p r
    → TakenLesser (row_of r (get_or labels p 0)) (row_of rows p) x
    → LeastRows t labels rows (p + 1) (set r (get_or labels p 0) x)
least_taken g port l taken = least_on g port l taken.long taken.is_lesser
