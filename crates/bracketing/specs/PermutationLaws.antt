-- Permutations of lists, and the elements that pass a test.
use Prim.Native.Nat.{ℕ, zero, suc, ◌<◌}
use Rattle.std.specs.Prelude.{◌≡◌, Bool, not, get_or}
use Rattle.std.proofs.Math.Path.{refl}
use Rattle.std.proofs.Math.Bool.{true, false, cond}
use mathlib.Core.List.Permᴰ
use mathlib.Core.List.{List, [], ◌∷◌, ◌++◌, Permᴰ}
use Rattle.std.proofs.Common.{arith}
use Rattle.std.proofs.Math.ListN.{length}
use Rattle.numbers.specs.Lists.{keep}
use Rattle.joins.specs.EachLaws.{Each}

-- two parts exchanged
pub permuted_exchange : {A : Type 0} (xs ys zs : List A) → Permᴰ (xs ++ (ys ++ zs)) (ys ++ (xs ++ zs))
permuted_exchange [] ys zs = Permᴰ.refl (ys ++ zs)
permuted_exchange (x ∷ xs) ys zs =
    Permᴰ.trans (Permᴰ.cons refl (permuted_exchange xs ys zs)) (Permᴰ.symm (Permᴰ.middle x ys (xs ++ zs)))

module _ {A : Type 0} (test : A → Bool) where
  abbrev others : List A → List A
  others xs = keep (λ x. not (test x)) xs

  -- what passes a test, then what does not
  pub permuted_parts : (xs : List A) → Permᴰ (keep test xs ++ others xs) xs
  unfolding keep
  permuted_parts [] = Permᴰ.nil
  permuted_parts (x ∷ xs) = decided (test x) (permuted_parts xs)
    where
      decided : (t : Bool) → Permᴰ (keep test xs ++ others xs) xs
          → Permᴰ (cond t (x ∷ keep test xs) (keep test xs) ++ cond (not t) (x ∷ others xs) (others xs)) (x ∷ xs)
      decided true rest = Permᴰ.cons refl rest
      decided false rest = Permᴰ.trans (Permᴰ.middle x (keep test xs) (others xs)) (Permᴰ.cons refl rest)

  pub each_keep : (P Q : A → Type 0) (d : A) (xs : List A) → ((x : A) → test x ≡ true → P x → Q x) → Each P d xs → Each Q d (keep test xs)
  unfolding keep
  each_keep P Q d [] on f k h = absurd (omega arith)
  each_keep P Q d (x ∷ xs) on f k h = decided (test x) refl k h (each_keep P Q d xs on (λ j i. f (suc j) (omega arith)))
    where
      decided : (t : Bool) → test x ≡ t → (k : ℕ) → k < length (cond t (x ∷ keep test xs) (keep test xs)) → Each Q d (keep test xs)
          → Q (get_or (cond t (x ∷ keep test xs) (keep test xs)) k d)
      decided true e zero h rest = on x e (f 0 (omega arith))
      decided true e (suc k) h rest = rest k (omega arith)
      decided false e k h rest = rest k h
