-- Lists whose elements all have a property.
use Rattle.std.specs.Prelude.{ℕ, zero, suc, ◌<◌, List, [], ◌∷◌, ◌++◌, map, length, get_or}
use Rattle.std.proofs.Common.{arith}

abbrev pub Each : {A : Type 0} → (A → Type 0) → A → List A → Type 0
Each P d xs = (k : ℕ) → k < length xs → P (get_or xs k d)

module _ {A : Type 0} where
  pub each_append : (P : A → Type 0) (d : A) (xs ys : List A) → Each P d xs → Each P d ys → Each P d (xs ++ ys)
  each_append P d [] ys f g k h = g k h
  each_append P d (x ∷ xs) ys f g zero h = f 0 (omega arith)
  each_append P d (x ∷ xs) ys f g (suc k) h = each_append P d xs ys (λ j i. f (suc j) (omega arith)) g k (omega arith)

  pub each_map : (P Q : A → Type 0) (d : A) (m : A → A) (xs : List A) → ((x : A) → P x → Q (m x)) → Each P d xs → Each Q d (map m xs)
  each_map P Q d m [] on f k h = absurd (omega arith)
  each_map P Q d m (x ∷ xs) on f zero h = on x (f 0 (omega arith))
  each_map P Q d m (x ∷ xs) on f (suc k) h = each_map P Q d m xs on (λ j i. f (suc j) (omega arith)) k (omega arith)
