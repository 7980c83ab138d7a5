-- Whether one of the links of a list passes a test.
use Rattle.std.specs.Prelude.{ℕ, suc, ◌<◌, ◌≡◌, Bool, true, false, not, get_or, Option, MatchOption}
use Rattle.std.specs.Bool.{MatchBool}
use Rattle.std.specs.List.{HoldsAt, AllWithin, range_with_len}
use Rattle.std.proofs.Math.Path.{refl, sym}
use Rattle.std.proofs.Common.{◌∙◌, arith}
use Rattle.std.proofs.lemmas.List.FromFn.{length-range_with_len, get_or-range_with_len}
use Rattle.std.proofs.Math.ListN.{length}
use Rattle.std.proofs.lemmas.Iterator.{cases_from_any, YieldsList-from_range}
use Rattle.std.proofs.iter.Yields.{nat_range_steps}
use Rattle.std.specs.declared.ops.Range.{Range}
use Rattle.std.specs.Iterator.{YieldsThen}
use Rattle.std.specs.Fn.{Called}
use Rattle.std.specs.List.{FoldsTo}
use denote.Param.Members.{Mut}
use native.Mathlib.Nat.{sub-zero}
use mathlib.Core.List.{List, [], ◌∷◌}
use borrow.Author.Tests.{ne_eqb}
use Rattle.numbers.specs.Lists.{keep}
use Rattle.specification.specs.Table.{no_link}
use Rattle.specification.specs.Hiding.{none}
use Rattle.specification.specs.declared.Link.{Link}
use Rattle.hiding_laws.specs.ListLaws.{at_keep}

number_at : (n k d : ℕ) → k < n → get_or (range_with_len 0 n) k d ≡ k
number_at n k d h = get_or-range_with_len 0 n k d h ∙ omega arith

module _ (test : Link → Bool) where
  abbrev some_passes : List Link → Bool
  some_passes xs = not (none (keep test xs))

  none_kept : (xs : List Link) → ((k : ℕ) → k < length xs → test (get_or xs k no_link) ≡ false) → keep test xs ≡ []
  unfolding keep
  none_kept [] h = refl
  none_kept (x ∷ xs) h = rw (h 0 (omega arith)) (none_kept xs (λ k l. h (suc k) (omega arith)))

  module _ (xs : List Link) where
    pub one_passes : {k : ℕ} → k < length xs → test (get_or xs k no_link) ≡ true → some_passes xs ≡ true
    one_passes {k} h e =
        let here = at_keep test xs (record { place = k; below = h; is = refl }) e in
        rw (ne_eqb (length (keep test xs)) 0 (λ z. omega (arith, z, here.below)))

    pub none_passes : ((k : ℕ) → k < length xs → test (get_or xs k no_link) ≡ false) → some_passes xs ≡ false
    none_passes h = rw (none_kept xs h)

    answer_is : (n : ℕ) → n ≡ length xs → (r : Bool)
        → MatchBool r ((k : ℕ) × (k < length (range_with_len 0 n)) × HoldsAt (λ i. test (get_or xs i no_link) ≡ true) (range_with_len 0 n) k) (AllWithin (λ i. test (get_or xs i no_link) ≡ false) (range_with_len 0 n) 0 (length (range_with_len 0 n)))
        → r ≡ some_passes xs
    answer_is n e true (k, h, p) =
        let below : k < n = omega (arith, h, length-range_with_len 0 n) in
        sym (one_passes (omega (arith, below, e)) (rw (number_at n k 0 below) at (p 0)))
    answer_is n e false p =
        sym (none_passes (λ k h. rw (number_at n k 0 (omega (arith, h, e))) at (p k 0 (omega arith) (omega (arith, h, e, length-range_with_len 0 n)))))

    -- what `any` over the numbers of all links says, where each answer is the test of that link
    pub any_of : {F : Type 0} {g : Mut F (ℕ × Unit {0}) Bool} (n : ℕ) (u : Range ℕ) (f : F) (r : Bool) → n ≡ length xs
        → (ys : List ℕ) × (o : Option ℕ) × (j : F) × YieldsThen nat_range_steps (record { start = 0; end = n }) ys o u × FoldsTo (λ p x q. Called g p (x, tt) false q) f ys j × MatchOption o (r ≡ false) (λ x. (r ≡ true) × ((h : F) × Called g j (x, tt) true h))
        → ((x : ℕ) (b : Bool) (q : F) → Called g f (x, tt) b q → (q ≡ f) × (b ≡ test (get_or xs x no_link)))
        → r ≡ some_passes xs
    any_of n u f r e ran told =
        answer_is n e r
        (cases_from_any u f r (λ k. test (get_or xs k no_link) ≡ true) (λ k. test (get_or xs k no_link) ≡ false) ran (YieldsList-from_range 0 n n refl (sub-zero n))
        (λ x q k. sym (told x true q k).1)
        (λ x q k. ((told x false q k).0, sym (told x false q k).1)))
