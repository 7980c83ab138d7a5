-- Laws of the port numbers without port p, where later ports move down one.
use Rattle.std.specs.Prelude.{ℕ, ◌+◌, ◌-◌, ◌≤◌, ◌<◌, ◌≡◌, ◌≢◌}
use Rattle.std.proofs.Common.{⊎_elim, arith, lt-ltb, le-ltb}
use Rattle.numbers.specs.ListLaws.{lt_or_le}
use Rattle.specification.specs.Hiding.{old_number, new_number}

pub old_other : (p q : ℕ) → old_number p q ≢ p
unfolding old_number
old_other p q = ⊎_elim
    (λ (h : q < p). rw (lt-ltb q p h) (λ (e : q ≡ p). omega arith))
    (λ (h : p ≤ q). rw (le-ltb q p h) (λ (e : q + 1 ≡ p). omega arith)) (lt_or_le q p)

pub new_of_old : (p q : ℕ) → new_number p (old_number p q) ≡ q
unfolding old_number new_number
new_of_old p q = ⊎_elim
    (λ (h : q < p). rw (lt-ltb q p h, le-ltb p q (omega arith)))
    (λ (h : p ≤ q). rw (le-ltb q p h, lt-ltb p (q + 1) (omega arith)) (omega arith)) (lt_or_le q p)

pub old_of_new : (p q : ℕ) → q ≢ p → old_number p (new_number p q) ≡ q
unfolding old_number new_number
old_of_new p q n = ⊎_elim
    (λ (h : p < q). rw (lt-ltb p q h, le-ltb (q - 1) p (omega arith)) (omega arith))
    (λ (h : q ≤ p).
    let less : q < p = below (omega arith) in
    rw (le-ltb p q h, lt-ltb q p less)) (lt_or_le p q)
  where
    below : q ≤ p → q < p
    below h = ⊎_elim (λ (l : q < p). l) (λ (l : p ≤ q). absurd (n (omega arith))) (lt_or_le q p)

pub old_below : (p q n : ℕ) → q < n → p ≤ n → old_number p q < n + 1
unfolding old_number
old_below p q n h l = ⊎_elim
    (λ (k : q < p). rw (lt-ltb q p k) (omega arith))
    (λ (k : p ≤ q). rw (le-ltb q p k) (omega arith)) (lt_or_le q p)

pub new_below : (p q n : ℕ) → q ≢ p → p < n + 1 → q < n + 1 → new_number p q < n
unfolding new_number
new_below p q n d l h = ⊎_elim
    (λ (k : p < q). rw (lt-ltb p q k) (omega arith))
    (λ (k : q ≤ p). rw (le-ltb p q k) (⊎_elim (λ (m : q < p). omega arith) (λ (m : p ≤ q). absurd (d (omega arith))) (lt_or_le q p)))
    (lt_or_le p q)
