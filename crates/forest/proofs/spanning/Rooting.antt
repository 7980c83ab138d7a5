-- The loop that reaches the lowest port of each component.
use Prim.Native.Nat.{ℕ, zero, suc, ◌+◌, ◌≤◌, ◌<◌, min}
use mathlib.Core.Path.{◌≡◌, refl, ◌∙◌}
use mathlib.Core.Logic.{◌≢◌, ⊎_elim}
use mathlib.Core.List.{List}
use native.Mathlib.Decide.{ℕ_discrete}
use native.Mathlib.Omega.{arith}
use borrow.Author.Count.{below_more}
use lib.ListN.{get_or, set, replicate, length-set, length-replicate, get_or-replicate, get_or-eq_default}
use lib.Seq.{get_or-set_other}
use Rattle.numbers.specs.ListLaws.{lt_or_le}
use Rattle.numbers.specs.Lists.{sum}
use Rattle.forest.specs.declared.spanning.Growing.{Growing}
use Rattle.forest.specs.Spreading.{entered, Rooted}
use Rattle.forest.proofs.spanning.Numbers.{numbered_few, numbered_on, number_new, reached_kept}

zeros : (n q : ℕ) → ◌≡◌ {A = ℕ} (get_or (replicate n 0) q 0) 0
zeros n q = ⊎_elim (λ (h : q < n). get_or-replicate n q 0 0 h) (λ (h : n ≤ q). get_or-eq_default (replicate n 0) 0 (rw length-replicate h)) (lt_or_le q n)

sum_zeros : (n : ℕ) → sum (λ r. min r 1) (replicate n 0) ≡ 0
sum_zeros zero = refl
sum_zeros (suc n) = omega (arith, sum_zeros n)

-- the ports below p are passed
pub record Rooting (ports p : ℕ) (labels : List ℕ) (f : Growing) : Type 0 where
  pub within : p ≤ ports
  pub rooted : Rooted p labels f

pub rooting_none : {ports : ℕ} {labels : List ℕ} → Rooting ports 0 labels (record { reach = replicate 64 0; via = replicate 64 0; count = 0 })
rooting_none = record {
  within = omega arith;
  rooted = record {
    numbered = record {
      long = length-replicate {A = ℕ} 64 0;
      counted = sum_zeros 64;
      within = λ p. omega (arith, zeros 64 p);
      order = λ p q h e. absurd (omega (arith, zeros 64 p));
    };
    via_long = length-replicate {A = ℕ} 64 0;
    all = λ p h e. absurd (omega arith);
    only = λ p h. absurd (omega (arith, zeros 64 p));
    below = λ p h. absurd (omega (arith, zeros 64 p));
  };
}

module _ {ports p : ℕ} {labels : List ℕ} {f : Growing} (g : Rooting ports p labels f) where
  module _ (few : ports ≤ 64) (here : p < ports) where
    pub rooting_few : f.count ≤ 64
    rooting_few = numbered_few g.rooted.numbered

    pub rooting_below : p < 64
    rooting_below = omega arith

    -- p is not its own label
    pub rooting_off : get_or labels p 0 ≢ p → Rooting ports (p + 1) labels f
    rooting_off other =
        let r = g.rooted in
        record {
          within = omega arith;
          rooted = record {
            numbered = r.numbered;
            via_long = r.via_long;
            all = below_more _ p r.all (λ e. absurd (other e));
            only = r.only;
            below = λ q a. omega (arith, r.below q a);
          };
        }

    -- p is its own label
    pub rooting_on : get_or labels p 0 ≡ p → Rooting ports (p + 1) labels (entered f p 0)
    rooting_on own = record {
      within = omega arith;
      rooted = record {
        numbered = numbered_on f.reach p new r.numbered rooting_below;
        via_long = length-set f.via p 0 ∙ r.via_long;
        all = below_more _ p (λ q b e. rw (reached_kept f.reach p new q (f.count + 1) (r.all q b e)) (r.all q b e))
            (λ _. rw (number_new f.reach p new r.numbered rooting_below) (omega arith));
        only = λ q a. only_on q (ℕ_discrete q p) a;
        below = λ q a. below_on q (ℕ_discrete q p) a;
      };
    }
      where
        r : Rooted p labels f
        r = g.rooted

        new : get_or f.reach p 0 ≡ 0
        new = ⊎_elim (λ (a : 0 < get_or f.reach p 0). absurd (omega (arith, r.below p a))) (λ (a : get_or f.reach p 0 ≤ 0). omega arith) (lt_or_le 0 (get_or f.reach p 0))

        only_on : (q : ℕ) → Dec (q ≡ p) → 0 < get_or (set f.reach p (f.count + 1)) q 0 → get_or labels q 0 ≡ q
        only_on q (yes e) a = rw e own
        only_on q (no d) a = r.only q (rw (get_or-set_other f.reach p q (f.count + 1) 0 d) at a)

        below_on : (q : ℕ) → Dec (q ≡ p) → 0 < get_or (set f.reach p (f.count + 1)) q 0 → q < p + 1
        below_on q (yes e) a = omega arith
        below_on q (no d) a = omega (arith, r.below q (rw (get_or-set_other f.reach p q (f.count + 1) 0 d) at a))
