-- What is kept of each port of a component, one port after the other.
use Prim.Native.Nat.{ℕ, ◌+◌, ◌<◌}
use mathlib.Core.Path.{◌≡◌, refl, ◌∙◌}
use mathlib.Core.Logic.{◌≢◌, ⊎_elim}
use mathlib.Core.List.Memᴰ
use mathlib.Core.List.Memᴰ.{head as here}
use mathlib.Core.List.{List}
use native.Mathlib.Decide.{ℕ_discrete}
use native.Mathlib.Numerals.{add-one}
use lib.ListN.{length, get_or, set, take, length-set}
use lib.Seq.{get_or-set_same, get_or-set_other, take-suc}
use Rattle.fraction.specs.declared.Fraction.{Fraction}
use Rattle.numbers.specs.Lists.{◌∈◌}
use Rattle.numbers.specs.Taken.{member_at, take_cases}
use Rattle.results.specs.Kept.{none_kept}
use Rattle.results.specs.declared.kept.Kept.{Kept}
use Rattle.analysis.specs.Timed.{Members}

-- a port of the first i + 1 that is not the last is one of the first i; one that is not among them is not among the first i, nor the last
module _ (members : List ℕ) {i : ℕ} (more : i < length members) {q : ℕ} where
  before_last : q ∈ take (i + 1) members → q ≢ get_or members i 0 → q ∈ take i members
  before_last m f = ⊎_elim (λ k. k) (λ e. absurd (f e)) (take_cases members i more m)

  not_before : ¬ (q ∈ take (i + 1) members) → ¬ (q ∈ take i members)
  not_before f m = f (rw (add-one, take-suc members i 0 more) (Memᴰ.append_left _ m))

  not_last : ¬ (q ∈ take (i + 1) members) → q ≢ get_or members i 0
  not_last f e = f (rw (e, add-one, take-suc members i 0 more) (Memᴰ.append_right (take i members) (here refl)))

pub low_at : {members : List ℕ} {i : ℕ} → Members members → i < length members → get_or members i 0 < 64
low_at {members} {i} l h = l.low _ (member_at members i h)

-- ---- the first i ports hold theirs
pub record Keeping (members : List ℕ) (period : Fraction) (starts : List ℕ) (kept₀ kept : List Kept) (i : ℕ) : Type 0 where
  pub same_length : length kept ≡ length kept₀
  pub own : (p : ℕ) → p ∈ take i members → get_or kept p none_kept ≡ record { component = get_or members 0 0; period = period; start = get_or starts p 0 }
  pub others : (p : ℕ) → ¬ (p ∈ take i members) → get_or kept p none_kept ≡ get_or kept₀ p none_kept

module _ {members : List ℕ} {period : Fraction} {starts : List ℕ} {kept₀ kept : List Kept} {i : ℕ} (k : Keeping members period starts kept₀ kept i) where
  pub keeping_on : {z : ℕ} → i < length members → get_or members i 0 < length kept → z ≡ get_or starts (get_or members i 0) 0
      → Keeping members period starts kept₀ (set kept (get_or members i 0) (record { component = get_or members 0 0; period = period; start = z })) (i + 1)
  keeping_on {z} more low start = record {
    same_length = length-set kept p x ∙ k.same_length;
    own = λ q m. elim (ℕ_discrete q p) [
      | yes e ↦ rw (e, get_or-set_same kept p x none_kept low, start)
      | no f ↦ get_or-set_other kept p q x none_kept f ∙ k.own q (before_last members more m f)
    ];
    others = λ q f. get_or-set_other kept p q x none_kept (not_last members more f) ∙ k.others q (not_before members more f);
  }
    where
      p : ℕ
      p = get_or members i 0

      x : Kept
      x = record { component = get_or members 0 0; period = period; start = z }
