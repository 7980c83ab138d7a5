-- The rows in which ports were met.
use Prim.Native.Nat.{ℕ, suc, ◌+◌, ◌-◌, ◌≤◌, ◌<◌}
use mathlib.Core.Path.{◌≡◌, sym, ◌∙◌}
use mathlib.Core.Logic.{⊎_elim}
use mathlib.Core.List.Memᴰ.{cases_cons}
use mathlib.Core.List.Memᴰ.{not-nil}
use mathlib.Core.List.{List, [], ◌∷◌}
use Rattle.std.specs.Prelude.{Option, Some, None}
use native.Mathlib.Omega.{arith}
use native.Mathlib.Decide.{ℕ_discrete}
use lib.ListN.{length, get_or, set, replicate, length-set, length-replicate, get_or-replicate}
use lib.Seq.{get_or-set_same, get_or-set_other}
use Rattle.numbers.specs.Lists.{◌∈◌}

-- port x stands in the list at row i, where the list starts at row r
pub record Placed (ports : List ℕ) (r x i : ℕ) : Type 0 where
  pub from : r ≤ i
  pub below : i < r + length ports
  pub there : get_or ports (i - r) 0 ≡ x

-- met has the row of each port of the list, and of no other
pub record Marks (ports : List ℕ) (r : ℕ) (met : List (Option ℕ)) : Type 0 where
  pub long : length met ≡ 64
  pub absent : (x : ℕ) → x < 64 → get_or met x None ≡ None → ¬ (x ∈ ports)
  pub placed : (x i : ℕ) → x < 64 → get_or met x None ≡ Some i → Placed ports r x i

pub marks_none : (r : ℕ) → Marks [] r (replicate 64 None)
marks_none r = record {
  long = length-replicate {A = Option ℕ} 64 None;
  absent = λ x l e. not-nil;
  placed = λ x i l e. let none = get_or-replicate {A = Option ℕ} 64 x None None l in absurd (cc);
}

-- one row back, at port q
pub marks_more : {ports : List ℕ} {met : List (Option ℕ)} {u q : ℕ} → Marks ports (suc u) met → q < 64 → Marks (q ∷ ports) u (set met q (Some u))
marks_more {ports} {met} {u} {q} m low = record { long = length-set met q (Some u) ∙ m.long; absent = absent; placed = placed }
  where
    here : get_or (set met q (Some u)) q None ≡ Some u
    here = get_or-set_same met q (Some u) None (omega (arith, m.long))

    absent : (x : ℕ) → x < 64 → get_or (set met q (Some u)) x None ≡ None → ¬ (x ∈ (q ∷ ports))
    absent x l e = elim (ℕ_discrete x q) [
      | yes h ↦ let same = rw h at e in absurd (cc here)
      | no h ↦ λ i. ⊎_elim h (m.absent x l (sym (get_or-set_other met q x (Some u) None h) ∙ e)) (cases_cons i)
    ]

    placed : (x i : ℕ) → x < 64 → get_or (set met q (Some u)) x None ≡ Some i → Placed (q ∷ ports) u x i
    placed x i l e = elim (ℕ_discrete x q) [
      | yes h ↦
          let there = rw h at e in
          let same : i ≡ u = cc here in
          let z : u - u ≡ 0 = omega arith in
          record { from = omega arith; below = omega arith; there = rw (same, z) (sym h) }
      | no h ↦
          let b = m.placed x i l (sym (get_or-set_other met q x (Some u) None h) ∙ e) in
          let z : i - u ≡ suc (i - suc u) = omega (arith, b.from) in
          record { from = omega (arith, b.from); below = omega (arith, b.below); there = rw z b.there }
    ]
