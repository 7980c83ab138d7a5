-- A word copied to its place is written.
use Prim.Native.Nat.{ℕ, ◌+◌, ◌-◌, ◌≤◌}
use mathlib.Core.Path.{◌≡◌, ap}
use mathlib.Core.List.{List, ◌++◌, append_assoc}
use native.Mathlib.Omega.{arith}
use borrow.Rule.Slice.PartMut.{put_mid}
use lib.ListN.{length, take}
use lib.Seq.{drop-drop}
use Rattle.std.proofs.lemmas.List.Edits.{sets, sets-eq}

-- the part of a text from a place on, where the word is now
pub copied : (text word : List ℕ) {part : List ℕ} (at : ℕ) → at + length word ≤ length text → part ≡ word → put_mid at (at + length word - at) text part ≡ sets text at word
copied text word at h e =
    let k : at + length word - at ≡ length word = omega arith in
    rw (e, k, sets-eq word text at h, append_assoc (take at text) word) (ap (λ (rest : List ℕ). take at text ++ (word ++ rest)) (drop-drop (length word) at text))
