-- A label lowered to that of a joined port: the labels stay sound, and their sum falls.
use Prim.Native.Nat.{ℕ, zero, suc, ◌<◌}
use mathlib.Core.Path.{◌≡◌, ◌∙◌}
use mathlib.Core.List.{List, [], ◌∷◌}
use native.Mathlib.Decide.{ℕ_discrete}
use native.Mathlib.Omega.{arith}
use lib.ListN.{get_or, set, length-set}
use lib.Seq.{get_or-set_same, get_or-set_other}
use Rattle.specification.specs.Table.{Table}
use Rattle.numbers.specs.Lists.{sum}
use Rattle.specification.specs.Ratios.{Joined}
use Rattle.ways.specs.WayLaws.{joined_trans}
use Rattle.ways.specs.Passes.{Both, Lowered, Label, Sound}

sum_set : (l : List ℕ) (i v : ℕ) → v < get_or l i 0 → sum (λ x. x) (set l i v) < sum (λ x. x) l
sum_set [] i v h = absurd (omega arith)
sum_set (x ∷ l) zero v h = omega arith
sum_set (x ∷ l) (suc i) v h = omega (arith, sum_set l i v h)

pub sum_lowered : {l l' : List ℕ} {p q : ℕ} → Lowered l p q l' → sum (λ v. v) l' < sum (λ v. v) l
sum_lowered {l} {p = p} {q} w = rw w.made (sum_set l p (get_or l q 0) w.smaller)

pub sound_lowered : {t : Table} {l l' : List ℕ} {p q : ℕ} → Sound t l → Joined t p q → Both p q → Lowered l p q l' → Sound t l'
sound_lowered {t} {l} {p = p} {q} s j b w = rw w.made (record {
  long = length-set l p (get_or l q 0) ∙ s.long;
  each = λ i h. decided i h (ℕ_discrete i p);
})
  where
    decided : (i : ℕ) → i < 64 → Dec (i ≡ p) → Label t i (get_or (set l p (get_or l q 0)) i 0)
    decided i h (yes e) = rw (e, get_or-set_same l p (get_or l q 0) 0 (omega (arith, s.long, b.one))) (record {
      low = omega (arith, w.smaller, (s.each p b.one).low);
      joined = joined_trans j (s.each q b.other).joined;
    })
    decided i h (no f) = rw (get_or-set_other l p i (get_or l q 0) 0 f) (s.each i h)
