-- The links of a list that pass a test, by their numbers.
use Rattle.std.specs.Prelude.{ℕ, zero, suc, ◌+◌, ◌≤◌, ◌<◌, ◌≡◌, Bool, true, false, length, take, get_or}
use Rattle.std.proofs.Math.Path.{refl, sym, subst}
use Rattle.std.proofs.Common.{ap, ◌∙◌, ⊎_elim, arith, length-append, take_all}
use Rattle.std.proofs.Math.Bool.{cond}
use mathlib.Core.List.{List, [], ◌∷◌, ◌++◌, map, map-append, append-nil}
use Rattle.std.proofs.Math.Numerals.{add-one}
use Rattle.std.proofs.lemmas.List.{length-map}
use Rattle.std.proofs.Math.ListN.{get_or-append}
use Rattle.std.proofs.Math.Seq.{take-suc, get_or-append_seam}
use Rattle.numbers.specs.Lists.{keep}
use Rattle.numbers.specs.ListLaws.{lt_or_le}
use Rattle.numbers.specs.KeepLaws.{keep_append, keep_one}
use Rattle.specification.specs.Table.{no_link}
use Rattle.specification.specs.declared.Link.{Link}

-- what a closure answers is the test of each of these links, and of none
pub record Decides (answers : Link → Bool → Type 0) (test : Link → Bool) (ls : List Link) : Type 0 where
  pub each : (k : ℕ) (b : Bool) → answers (get_or ls k no_link) b → b ≡ test (get_or ls k no_link)

pub decided_at : {answers : Link → Bool → Type 0} {test : Link → Bool} {ls : List Link} → Decides answers test ls → (k : ℕ) (l : Link) (b : Bool)
    → l ≡ get_or ls k no_link
    → answers l b
    → test (get_or ls k no_link) ≡ b
decided_at {answers} d k l b e a = sym (d.each k b (subst (λ (l : Link). answers l b) e a))

-- the links with these numbers
unfoldable pub picked : List Link → List ℕ → List Link
picked ls numbers = map (λ k. get_or ls k no_link) numbers

-- these are numbers of links
pub record Numbers (ls : List Link) (numbers : List ℕ) : Type 0 where
  pub below : (i : ℕ) → i < length numbers → get_or numbers i 0 < length ls

-- these are the numbers of the links that pass a test
pub record NumbersOf (test : Link → Bool) (ls : List Link) (numbers : List ℕ) : Type 0 where
  pub numbers_are : Numbers ls numbers
  pub few : length numbers ≤ length ls
  pub are : picked ls numbers ≡ keep test ls

pub picked_length : (ls : List Link) (numbers : List ℕ) → length (picked ls numbers) ≡ length numbers
unfolding picked
picked_length ls numbers = length-map numbers (λ k. get_or ls k no_link)

pub picked_at : (ls : List Link) (numbers : List ℕ) (i : ℕ) → i < length numbers → get_or (picked ls numbers) i no_link ≡ get_or ls (get_or numbers i 0) no_link
unfolding picked
picked_at ls [] i h = absurd (omega arith)
picked_at ls (x ∷ xs) zero h = refl
picked_at ls (x ∷ xs) (suc i) h = picked_at ls xs i (omega arith)

module _ {test : Link → Bool} {ls : List Link} {numbers : List ℕ} (n : NumbersOf test ls numbers) where
  -- how many there are
  pub numbers_count : length numbers ≡ length (keep test ls)
  numbers_count = sym (picked_length ls numbers) ∙ ap length n.are

  -- which is that of a link
  pub number_below : (i : ℕ) → i < length numbers → get_or numbers i 0 < length ls
  number_below i h = n.numbers_are.below i h

  -- the link whose number stands at place i
  pub numbers_at : (i : ℕ) {l : Link} → i < length numbers → l ≡ get_or ls (get_or numbers i 0) no_link → l ≡ get_or (keep test ls) i no_link
  numbers_at i h e =
      e ∙ sym (picked_at ls numbers i h) ∙ ap (λ (xs : List Link). get_or xs i no_link) n.are

-- ---- one turn of gathering
-- the same of the first k links
pub record GatheredFirst (test : Link → Bool) (ls : List Link) (numbers : List ℕ) (k : ℕ) : Type 0 where
  pub within : k ≤ length ls
  pub few : length numbers ≤ k
  pub below : Numbers ls numbers
  pub are : picked ls numbers ≡ keep test (take k ls)

module _ {test : Link → Bool} {ls : List Link} where
  pub gathered_none : GatheredFirst test ls [] 0
  unfolding picked keep
  gathered_none = record { within = omega arith; few = omega arith; below = record { below = λ i h. absurd (omega arith) }; are = refl }

  module _ {numbers : List ℕ} {k : ℕ} (g : GatheredFirst test ls numbers k) (h : k < length ls) where
    next : (b : Bool) → b ≡ test (get_or ls k no_link) → keep test (take (k + 1) ls) ≡ keep test (take k ls) ++ cond b (get_or ls k no_link ∷ []) []
    next b e = rw (
      add-one k,
      take-suc ls k no_link h,
      keep_append test (take k ls) (get_or ls k no_link ∷ []),
      keep_one test (get_or ls k no_link) b (sym e),
    )

    all_below : Numbers ls (numbers ++ k ∷ [])
    all_below = record {
      below = λ i j. ⊎_elim
          (λ (q : i < length numbers). rw (get_or-append numbers (k ∷ []) 0 i q) (g.below.below i q))
          (λ (q : length numbers ≤ i). last i q j)
          (lt_or_le i (length numbers));
    }
      where
        last : (i : ℕ) → length numbers ≤ i → i < length (numbers ++ k ∷ []) → get_or (numbers ++ k ∷ []) i 0 < length ls
        last i q j =
            let at : i ≡ length numbers = omega (arith, length-append numbers (k ∷ [])) in
            rw (at, get_or-append_seam numbers k [] 0) h

    pub gathered_on : test (get_or ls k no_link) ≡ true → GatheredFirst test ls (numbers ++ k ∷ []) (k + 1)
    unfolding picked
    gathered_on e = record {
      within = omega arith;
      few = omega (arith, g.few, length-append numbers (k ∷ []));
      below = all_below;
      are = map-append (λ (i : ℕ). get_or ls i no_link) numbers (k ∷ []) ∙ ap (λ (zs : List Link). zs ++ get_or ls k no_link ∷ []) g.are ∙ sym (next true (sym e));
    }

    pub gathered_off : test (get_or ls k no_link) ≡ false → GatheredFirst test ls numbers (k + 1)
    gathered_off e = record {
      within = omega arith;
      few = omega (arith, g.few);
      below = g.below;
      are = g.are ∙ sym (next false (sym e) ∙ append-nil (keep test (take k ls)));
    }

  pub gathered_all : {numbers : List ℕ} {k : ℕ} → GatheredFirst test ls numbers k → length ls ≤ k → NumbersOf test ls numbers
  gathered_all {k = k} g h = record {
    numbers_are = g.below;
    few = omega (arith, g.few, g.within);
    are = g.are ∙ ap (keep test) (take_all k ls h);
  }
