-- The numbers of the reached ports: at most 64, and what one more leaves as it was.
use Prim.Native.Nat.{ℕ, zero, suc, ◌+◌, ◌≤◌, ◌<◌, min}
use mathlib.Core.Path.{◌≡◌, sym, ap, ◌∙◌}
use mathlib.Core.Logic.{◌≢◌}
use mathlib.Core.List.{List, [], ◌∷◌}
use native.Mathlib.Decide.{ℕ_discrete}
use native.Mathlib.Omega.{arith}
use lib.ListN.{length, get_or, set, length-set}
use lib.Seq.{get_or-set_same, get_or-set_other}
use Rattle.numbers.specs.Lists.{sum}
use Rattle.numbers.specs.ListLaws.{sum_bound}
use Rattle.forest.specs.Spreading.{Numbered}

sum_set : (f : ℕ → ℕ) (l : List ℕ) (i v : ℕ) → i < length l → sum f (set l i v) + f (get_or l i 0) ≡ sum f l + f v
sum_set f [] i v h = absurd (omega arith)
sum_set f (x ∷ l) zero v h = omega arith
sum_set f (x ∷ l) (suc i) v h = omega (arith, sum_set f l i v (omega arith))

pub numbered_few : {reach : List ℕ} {count : ℕ} → Numbered reach count → count ≤ 64
numbered_few {reach} n = omega (arith, n.counted, n.long, sum_bound (λ (r : ℕ). min r 1) 1 reach (λ x m. omega arith))

module _ (reach : List ℕ) (p : ℕ) (new : get_or reach p 0 ≡ 0) where
  -- a reached port is another than p
  pub reached_other : (q : ℕ) → 0 < get_or reach q 0 → q ≢ p
  reached_other q h e = omega (arith, ap (λ (n : ℕ). get_or reach n 0) e)

  -- and keeps its number
  pub reached_kept : (q v : ℕ) → 0 < get_or reach q 0 → get_or (set reach p v) q 0 ≡ get_or reach q 0
  reached_kept q v h = get_or-set_other reach p q v 0 (reached_other q h)

  module _ {count : ℕ} (n : Numbered reach count) (below : p < 64) where
    pub number_new : get_or (set reach p (count + 1)) p 0 ≡ count + 1
    number_new = get_or-set_same reach p (count + 1) 0 (omega (arith, n.long))

    within_on : (q : ℕ) → Dec (q ≡ p) → get_or (set reach p (count + 1)) q 0 ≤ count + 1
    within_on q (yes e) = rw (e, number_new) (omega arith)
    within_on q (no d) = rw (get_or-set_other reach p q (count + 1) 0 d) (omega (arith, n.within q))

    order_on : (q r : ℕ) → Dec (q ≡ p) → Dec (r ≡ p) → 0 < get_or (set reach p (count + 1)) q 0
        → get_or (set reach p (count + 1)) q 0 ≡ get_or (set reach p (count + 1)) r 0
        → q ≡ r
    order_on q r (yes d) (yes e) h s = d ∙ sym e
    order_on q r (yes d) (no e) h s = absurd (omega (
      arith,
      rw (d, number_new) at s,
      get_or-set_other reach p r (count + 1) 0 e,
      n.within r,
    ))
    order_on q r (no d) (yes e) h s = absurd (omega (
      arith,
      rw (e, number_new) at s,
      get_or-set_other reach p q (count + 1) 0 d,
      n.within q,
    ))
    order_on q r (no d) (no e) h s =
        let a = get_or-set_other reach p q (count + 1) 0 d in
        let b = get_or-set_other reach p r (count + 1) 0 e in
        n.order q r (omega arith) (sym a ∙ s ∙ b)

    pub numbered_on : Numbered (set reach p (count + 1)) (count + 1)
    numbered_on = record {
      long = length-set reach p (count + 1) ∙ n.long;
      counted = omega (
        arith,
        sum_set (λ (r : ℕ). min r 1) reach p (count + 1) (omega (arith, n.long)),
        ap (λ (r : ℕ). min r 1) new,
        n.counted,
      );
      within = λ q. within_on q (ℕ_discrete q p);
      order = λ q r. order_on q r (ℕ_discrete q p) (ℕ_discrete r p);
    }
