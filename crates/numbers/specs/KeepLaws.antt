-- The elements that pass a test: of two lists one behind the other, of one element, and how many they are.
use Prim.Native.Nat.{suc, ◌+◌}
use Rattle.std.specs.Prelude.{◌≡◌, Bool, not}
use Rattle.std.proofs.Math.Path.{refl, ap}
use Rattle.std.proofs.Math.Bool.{true, false, cond}
use mathlib.Core.List.{List, [], ◌∷◌, ◌++◌}
use native.Mathlib.Omega.{arith}
use Rattle.std.proofs.Math.ListN.{length}
use Rattle.numbers.specs.Lists.{keep}

module _ {A : Type 0} (test : A → Bool) where
  abbrev others : List A → List A
  others xs = keep (λ x. not (test x)) xs

  pub keep_append : (xs ys : List A) → keep test (xs ++ ys) ≡ keep test xs ++ keep test ys
  unfolding keep
  keep_append [] ys = refl
  keep_append (x ∷ xs) ys = decided (test x) (keep_append xs ys)
    where
      decided : (b : Bool) → keep test (xs ++ ys) ≡ keep test xs ++ keep test ys
          → cond b (x ∷ keep test (xs ++ ys)) (keep test (xs ++ ys)) ≡ cond b (x ∷ keep test xs) (keep test xs) ++ keep test ys
      decided true e = ap (λ (zs : List A). x ∷ zs) e
      decided false e = e

  pub keep_one : (x : A) (b : Bool) → test x ≡ b → keep test (x ∷ []) ≡ cond b (x ∷ []) []
  unfolding keep
  keep_one x b e = rw e

  pub keep_length : (xs : List A) → length (keep test xs) + length (others xs) ≡ length xs
  unfolding keep
  keep_length [] = refl
  keep_length (x ∷ xs) = decided (test x) (keep_length xs)
    where
      decided : (t : Bool) → length (keep test xs) + length (others xs) ≡ length xs
          → length (cond t (x ∷ keep test xs) (keep test xs)) + length (cond (not t) (x ∷ others xs) (others xs)) ≡ suc (length xs)
      decided true e = omega arith
      decided false e = omega arith
