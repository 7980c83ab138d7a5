-- The steps down copied behind the steps up.
use Prim.Native.Nat.{ℕ, ◌+◌, ◌-◌, ◌≤◌, ◌<◌}
use mathlib.Core.Path.{◌≡◌, ◌∙◌}
use mathlib.Core.List.{List, ◌++◌}
use native.Mathlib.Omega.{arith}
use lib.ListN.{length, get_or, take, drop, length-take, length-drop, get_or-append}
use Rattle.std.proofs.lemmas.List.{get_or-append_right, get_or-take, get_or-drop}

-- ys is xs with the numbers of down from first on at the place next
pub record Copied (down xs ys : List ℕ) (first next : ℕ) : Type 0 where
  pub before : (p : ℕ) → p < next → get_or ys p 0 ≡ get_or xs p 0
  pub copied : (p q : ℕ) → first ≤ p → p < 128 → q + first ≡ p + next → get_or ys q 0 ≡ get_or down p 0

pub copied_part : (down xs rest : List ℕ) {part : List ℕ} {first next : ℕ} → part ≡ take (128 - first) (drop first down) → length down ≡ 128 → next ≤ length xs
    → Copied down xs (take next xs ++ (part ++ rest)) first next
copied_part down xs rest {part} {first} {next} e long low =
    let front : length (take next xs) ≡ next = omega (arith, length-take next xs) in
    let from = take (128 - first) (drop first down) in
    rw e (record {
      before = λ p h. get_or-append (take next xs) (from ++ rest) 0 p (omega arith) ∙ get_or-take next xs p 0 h;
      copied = λ p q l m f.
          let back : q - next < length from = omega (arith, length-take (128 - first) (drop first down), length-drop first down) in
          let there : first + (q - next) ≡ p = omega arith in
          get_or-append_right (take next xs) (from ++ rest) next q 0 front (omega arith)
          ∙ get_or-append from rest 0 (q - next) back
          ∙ get_or-take (128 - first) (drop first down) (q - next) 0 (omega arith)
          ∙ get_or-drop first down (q - next) 0
          ∙ rw there;
    })
